-- What a book keeps, each under a key; the key's place in the words; and that places of different keys share no word,
-- but for two periods of one slot.
use mathlib.Core.Path.{◌≡◌, refl, sym, ◌∙◌, ap}
use mathlib.Core.Logic.{◌≢◌}
use mathlib.Core.Bool.{Bool, true, false, true≢false}
use Prim.Native.Nat.{ℕ, ◌+◌, ◌*◌, ◌/◌, ◌%◌, ◌≤◌, ◌<◌}
use native.Mathlib.Omega.{arith}
use native.Mathlib.Nat.{mul-add-div_right, mul-add-mod_self_right, mod-eq_of_lt, div-eq_of_lt, mul-le-mul_right, add-zero}
use Rattle.offer_rules.specs.Time.{slots, slot_of}
use Rattle.book_rules.specs.Words.{book_size, clock_place, notice_place, limits_place, facility_place, outage_place, cell_place, standing_half, variation_half}

-- A variation's key has P whole.
pub data Key : Type 0 where
  clock_k : Key
  notice_k : ℕ → Key
  capability_k : ℕ → Key
  outage_k : ℕ → Key
  standing_k : ℕ → ℕ → ℕ → Key
  variation_k : ℕ → ℕ → ℕ → Key
  deriving Discrete as Key-discrete

unfoldable pub width : Key → ℕ
width clock_k = 1
width (notice_k k) = 2
width (capability_k f) = 17
width (outage_k f) = 2
width (standing_k f s k) = 24
width (variation_k f s p) = 24

-- The key by which a place goes: a variation's place goes by the slot.
abbrev pub spot : Key → Key
spot clock_k = clock_k
spot (notice_k k) = notice_k k
spot (capability_k f) = capability_k f
spot (outage_k f) = outage_k f
spot (standing_k f s k) = standing_k f s k
spot (variation_k f s p) = variation_k f s (slot_of p)

-- ---- cells

digits : (S f s f' s' : ℕ) → s < S → s' < S → f * S + s ≡ f' * S + s' → (f ≡ f') × (s ≡ s')
digits S f s f' s' h h' e =
    (sym (high f s h) ∙ ap (λ (n : ℕ). n / S) e ∙ high f' s' h', sym (low f s h) ∙ ap (λ (n : ℕ). n % S) e ∙ low f' s' h')
  where
    high : (x y : ℕ) → y < S → (x * S + y) / S ≡ x
    high x y l = mul-add-div_right (omega arith) x y ∙ ap (λ (n : ℕ). x + n) (div-eq_of_lt l) ∙ add-zero x

    low : (x y : ℕ) → y < S → (x * S + y) % S ≡ y
    low x y l = mul-add-mod_self_right x S y ∙ mod-eq_of_lt l

cell_numbers : (n n' h h' k k' : ℕ) → h < 2 → h' < 2 → k < 336 → k' < 336 → (n * 2 + h) * 336 + k ≡ (n' * 2 + h') * 336 + k' → (n ≡ n') × (h ≡ h') × (k ≡ k')
cell_numbers n n' h h' k k' hh hh' kk kk' e = omega arith

pub cell_inside : (F S f s h k : ℕ) → f < F → s < S → h < 2 → k < 336 → cell_place F S f s h k + 24 ≤ book_size F S
unfolding cell_place book_size
cell_inside F S f s h k hf hs hh hk = omega (arith, mul-le-mul_right S hf)

module _ (F S : ℕ) where
  pub cells_apart : (f s h k f' s' h' k' : ℕ) → s < S → s' < S → h < 2 → h' < 2 → k < 336 → k' < 336
      → cell_place F S f' s' h' k' < cell_place F S f s h k + 24 → cell_place F S f s h k < cell_place F S f' s' h' k' + 24
      → (f ≡ f') × (s ≡ s') × (h ≡ h') × (k ≡ k')
  unfolding cell_place
  cells_apart f s h k f' s' h' k' hs hs' hh hh' hk hk' a b =
      let x = cell_numbers (f * S + s) (f' * S + s') h h' k k' hh hh' hk hk' (omega arith) in
      let y = digits S f s f' s' hs hs' x.0 in
      (y.0, y.1, x.1, x.2)

  pub cell_late : (f s h k : ℕ) → 64 + 32 * F ≤ cell_place F S f s h k
  unfolding cell_place
  cell_late f s h k = omega arith

  -- ---- keys of a book for F facilities and S services

  unfoldable pub place : Key → ℕ
  place clock_k = clock_place
  place (notice_k k) = notice_place k
  place (capability_k f) = facility_place f
  place (outage_k f) = outage_place f
  place (standing_k f s k) = cell_place F S f s standing_half k
  place (variation_k f s p) = cell_place F S f s variation_half (slot_of p)

  abbrev pub Valid : Key → Type 0
  Valid clock_k = Unit {0}
  Valid (notice_k k) = (3 ≤ k) × (k ≤ 5)
  Valid (capability_k f) = f < F
  Valid (outage_k f) = f < F
  Valid (standing_k f s k) = (f < F) × (s < S) × (k < slots)
  Valid (variation_k f s p) = (f < F) × (s < S)

  size_of : 64 + 32 * F ≤ book_size F S
  unfolding book_size
  size_of = omega arith

  pub place_inside : (κ : Key) → Valid κ → place κ + width κ ≤ book_size F S
  unfolding place width
  place_inside clock_k h = omega (arith, size_of)
  place_inside (notice_k k) h = omega (arith, size_of)
  place_inside (capability_k f) h = omega (arith, size_of)
  place_inside (outage_k f) h = omega (arith, size_of)
  place_inside (standing_k f s k) h = cell_inside F S f s standing_half k h.0 h.1 (omega arith) h.2
  place_inside (variation_k f s p) h = cell_inside F S f s variation_half (slot_of p) h.0 h.1 (omega arith) (omega arith)

  -- Nothing is kept under a key in words 0 to 3, nor among the limits.
  pub place_late : (κ : Key) → Valid κ → 4 ≤ place κ
  unfolding place
  place_late clock_k h = omega arith
  place_late (notice_k k) h = omega arith
  place_late (capability_k f) h = omega arith
  place_late (outage_k f) h = omega arith
  place_late (standing_k f s k) h = omega (arith, cell_late f s standing_half k)
  place_late (variation_k f s p) h = omega (arith, cell_late f s variation_half (slot_of p))

  pub limits_apart : (κ : Key) → Valid κ → place κ < limits_place + 6 → limits_place < place κ + width κ → ⊥
  unfolding place width
  limits_apart clock_k v a b = omega arith
  limits_apart (notice_k k) v a b = omega arith
  limits_apart (capability_k f) v a b = omega arith
  limits_apart (outage_k f) v a b = omega arith
  limits_apart (standing_k f s k) v a b = omega (arith, cell_late f s standing_half k)
  limits_apart (variation_k f s p) v a b = omega (arith, cell_late f s variation_half (slot_of p))

  -- Places that share a word are one.
  pub places_apart : (κ κ' : Key) → Valid κ → Valid κ' → place κ' < place κ + width κ → place κ < place κ' + width κ' → spot κ ≡ spot κ'
  unfolding place width
  places_apart clock_k clock_k h h' x y = refl
  places_apart clock_k (notice_k k') h h' x y = absurd (omega arith)
  places_apart clock_k (capability_k f') h h' x y = absurd (omega arith)
  places_apart clock_k (outage_k f') h h' x y = absurd (omega arith)
  places_apart clock_k (standing_k f' s' k') h h' x y = absurd (omega (arith, cell_late f' s' standing_half k'))
  places_apart clock_k (variation_k f' s' p') h h' x y = absurd (omega (arith, cell_late f' s' variation_half (slot_of p')))
  places_apart (notice_k k) clock_k h h' x y = absurd (omega arith)
  places_apart (notice_k k) (notice_k k') h h' x y = ap notice_k (omega arith)
  places_apart (notice_k k) (capability_k f') h h' x y = absurd (omega arith)
  places_apart (notice_k k) (outage_k f') h h' x y = absurd (omega arith)
  places_apart (notice_k k) (standing_k f' s' k') h h' x y = absurd (omega (arith, cell_late f' s' standing_half k'))
  places_apart (notice_k k) (variation_k f' s' p') h h' x y = absurd (omega (arith, cell_late f' s' variation_half (slot_of p')))
  places_apart (capability_k f) clock_k h h' x y = absurd (omega arith)
  places_apart (capability_k f) (notice_k k') h h' x y = absurd (omega arith)
  places_apart (capability_k f) (capability_k f') h h' x y = ap capability_k (omega arith)
  places_apart (capability_k f) (outage_k f') h h' x y = absurd (omega arith)
  places_apart (capability_k f) (standing_k f' s' k') h h' x y = absurd (omega (arith, cell_late f' s' standing_half k'))
  places_apart (capability_k f) (variation_k f' s' p') h h' x y = absurd (omega (arith, cell_late f' s' variation_half (slot_of p')))
  places_apart (outage_k f) clock_k h h' x y = absurd (omega arith)
  places_apart (outage_k f) (notice_k k') h h' x y = absurd (omega arith)
  places_apart (outage_k f) (capability_k f') h h' x y = absurd (omega arith)
  places_apart (outage_k f) (outage_k f') h h' x y = ap outage_k (omega arith)
  places_apart (outage_k f) (standing_k f' s' k') h h' x y = absurd (omega (arith, cell_late f' s' standing_half k'))
  places_apart (outage_k f) (variation_k f' s' p') h h' x y = absurd (omega (arith, cell_late f' s' variation_half (slot_of p')))
  places_apart (standing_k f s k) clock_k h h' x y = absurd (omega (arith, cell_late f s standing_half k))
  places_apart (standing_k f s k) (notice_k k') h h' x y = absurd (omega (arith, cell_late f s standing_half k))
  places_apart (standing_k f s k) (capability_k f') h h' x y = absurd (omega (arith, cell_late f s standing_half k))
  places_apart (standing_k f s k) (outage_k f') h h' x y = absurd (omega (arith, cell_late f s standing_half k))
  places_apart (standing_k f s k) (standing_k f' s' k') h h' x y =
      let t = cells_apart f s standing_half k f' s' standing_half k' h.1 h'.1 (omega arith) (omega arith) h.2 h'.2 x y in
      λ i. standing_k (t.0 i) (t.1 i) (t.3 i)
  places_apart (standing_k f s k) (variation_k f' s' p') h h' x y =
      let t = cells_apart f s standing_half k f' s' variation_half (slot_of p') h.1 h'.1 (omega arith) (omega arith) h.2 (omega arith) x y in
      absurd (omega (arith, t.2))
  places_apart (variation_k f s p) clock_k h h' x y = absurd (omega (arith, cell_late f s variation_half (slot_of p)))
  places_apart (variation_k f s p) (notice_k k') h h' x y = absurd (omega (arith, cell_late f s variation_half (slot_of p)))
  places_apart (variation_k f s p) (capability_k f') h h' x y = absurd (omega (arith, cell_late f s variation_half (slot_of p)))
  places_apart (variation_k f s p) (outage_k f') h h' x y = absurd (omega (arith, cell_late f s variation_half (slot_of p)))
  places_apart (variation_k f s p) (standing_k f' s' k') h h' x y =
      let t = cells_apart f s variation_half (slot_of p) f' s' standing_half k' h.1 h'.1 (omega arith) (omega arith) (omega arith) h'.2 x y in
      absurd (omega (arith, t.2))
  places_apart (variation_k f s p) (variation_k f' s' p') h h' x y =
      let t = cells_apart f s variation_half (slot_of p) f' s' variation_half (slot_of p') h.1 h'.1 (omega arith) (omega arith) (omega arith) (omega arith) x y in
      λ i. variation_k (t.0 i) (t.1 i) (t.3 i)

-- ---- keys with one place

is_variation_k : Key → Bool
is_variation_k clock_k = false
is_variation_k (notice_k k) = false
is_variation_k (capability_k f) = false
is_variation_k (outage_k f) = false
is_variation_k (standing_k f s k) = false
is_variation_k (variation_k f s p) = true

is_variation_k_spot : (κ : Key) → is_variation_k (spot κ) ≡ is_variation_k κ
unfolding is_variation_k
is_variation_k_spot clock_k = refl
is_variation_k_spot (notice_k k) = refl
is_variation_k_spot (capability_k f) = refl
is_variation_k_spot (outage_k f) = refl
is_variation_k_spot (standing_k f s k) = refl
is_variation_k_spot (variation_k f s p) = refl

spot_itself : (κ : Key) → is_variation_k κ ≡ false → spot κ ≡ κ
unfolding is_variation_k
spot_itself clock_k e = refl
spot_itself (notice_k k) e = refl
spot_itself (capability_k f) e = refl
spot_itself (outage_k f) e = refl
spot_itself (standing_k f s k) e = refl
spot_itself (variation_k f s p) e = absurd (true≢false e)

one_key : (κ κ' : Key) → is_variation_k κ ≡ false → spot κ ≡ spot κ' → κ ≡ κ'
one_key κ κ' e m = sym (spot_itself κ e) ∙ m ∙ spot_itself κ' (sym (is_variation_k_spot κ') ∙ ap is_variation_k (sym m) ∙ is_variation_k_spot κ ∙ e)

-- Two keys with one place are two periods of a slot.
unfoldable pub TwoPeriods : Key → Key → Type 0
TwoPeriods κ κ' = (f : ℕ) × (s : ℕ) × (q : ℕ) × (p : ℕ) × (κ ≡ variation_k f s q) × (κ' ≡ variation_k f s p) × (q ≢ p) × (slot_of q ≡ slot_of p)

other_period : (f s q : ℕ) (κ' : Key) → variation_k f s q ≢ κ' → spot (variation_k f s q) ≡ spot κ'
    → (p : ℕ) × (κ' ≡ variation_k f s p) × (q ≢ p) × (slot_of q ≡ slot_of p)
unfolding is_variation_k
other_period f s q clock_k n m = absurd (n (sym (one_key clock_k (variation_k f s q) refl (sym m))))
other_period f s q (notice_k k) n m = absurd (n (sym (one_key (notice_k k) (variation_k f s q) refl (sym m))))
other_period f s q (capability_k f') n m = absurd (n (sym (one_key (capability_k f') (variation_k f s q) refl (sym m))))
other_period f s q (outage_k f') n m = absurd (n (sym (one_key (outage_k f') (variation_k f s q) refl (sym m))))
other_period f s q (standing_k f' s' k) n m = absurd (n (sym (one_key (standing_k f' s' k) (variation_k f s q) refl (sym m))))
other_period f s q (variation_k f' s' p) n m =
    let a : f' ≡ f = cc in
    let b : s' ≡ s = cc in
    let d : slot_of q ≡ slot_of p = cc in
    (p, (λ i. variation_k (a i) (b i) p), (λ g. n (λ i. variation_k (sym a i) (sym b i) (g i))), d)

pub two_periods : (κ κ' : Key) → κ ≢ κ' → spot κ ≡ spot κ' → TwoPeriods κ κ'
unfolding TwoPeriods is_variation_k
two_periods clock_k κ' n m = absurd (n (one_key clock_k κ' refl m))
two_periods (notice_k k) κ' n m = absurd (n (one_key (notice_k k) κ' refl m))
two_periods (capability_k f) κ' n m = absurd (n (one_key (capability_k f) κ' refl m))
two_periods (outage_k f) κ' n m = absurd (n (one_key (outage_k f) κ' refl m))
two_periods (standing_k f s k) κ' n m = absurd (n (one_key (standing_k f s k) κ' refl m))
two_periods (variation_k f s q) κ' n m = let t = other_period f s q κ' n m in (f, s, q, t.0, refl, t.1, t.2, t.3)
