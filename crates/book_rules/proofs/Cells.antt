-- What refusal 4 leaves of an offer, and a cell written and read back: 4 and 14 leave no ramps that word 2 doesn't give back.
use mathlib.Core.Path.{◌≡◌, refl, sym, ◌∙◌, ap}
use mathlib.Core.Bool.{Bool, true, false, cond, not, ◌&&◌, ◌||◌, true≢false, and-false, or-false}
use mathlib.Core.List.{List, [], ◌∷◌}
use mathlib.Core.Option.{none, some}
use mathlib.Core.Logic.{◌≢◌, ◌⊎◌, inl, inr}
use Prim.Native.Nat.{ℕ, zero, suc, ◌+◌, ◌-◌, ◌≤◌, ◌<◌}
use native.Mathlib.Omega.{arith}
use lib.Dec.{leb, ltb, eqb}
use lib.IntN.{ℤ, pos, negsuc}
use lib.Signed.{quot_z, rem_z, lt_z}
use lib.ListN.{length, get_or, drop, length-drop}
use lib.Seq.{get_or-drop}
use borrow.Author.Tests.{eq-eqb, ne_eqb, eqb-true, lt-leb, not-true}
use Rattle.offer_rules.specs.Numbers.{word, between, beyond, any_beyond}
use Rattle.offer_rules.specs.Offer.{pairs, Held, accepted_at, all_blank, most_ramp, ramp_beyond, ramp_refused, offer_number}
use Rattle.offer_rules.proofs.Drawn.{or_left, or_right, then_zero, draw_zero}
use Rattle.offer_rules.proofs.Ranges.{within}
use Rattle.book_rules.specs.Record.{byte, signed, word_at, words_at, call_of, service_of, offer_in, used_by_offer, used, any_stray, has_stray}
use Rattle.book_rules.specs.Words.{ramp_unit, packed_ramps, cell, cell_held, holding, ramps_fit, variation_stamp}
use Rattle.book_rules.specs.Force.{variation_made}
use Rattle.book_rules.specs.Book.{held}

-- ---- what is not sent is zero

-- Where no byte is stray, a byte that isn't used is zero.
unused_zero : (f : ℕ → Bool) (i : ℕ) (l : List ℕ) → any_stray f i l ≡ false → (k : ℕ) → f (i + k) ≡ false → get_or l k 0 ≡ 0
unfolding any_stray
unused_zero f i [] e k u = refl
unused_zero f i (x ∷ l) e zero u = go (eqb x 0) refl (or_left (not (eqb x 0) && not (f i)) (any_stray f (suc i) l) e)
  where
    go : (t : Bool) → eqb x 0 ≡ t → (not t && not (f i)) ≡ false → x ≡ 0
    go true h e = eqb-true x 0 h
    go false h e = absurd (true≢false (sym (ap (λ (j : ℕ). not (f j)) (omega arith) ∙ ap not u) ∙ e))
unused_zero f i (x ∷ l) e (suc k) u =
    unused_zero f (suc i) l (or_right (not (eqb x 0) && not (f i)) (any_stray f (suc i) l) e) k (ap f (omega arith) ∙ u)

of_either_offer : (k s i : ℕ) → (k ≡ 3) ⊎ (k ≡ 4) → used k s i ≡ (between 6 12 i || used_by_offer s i)
unfolding used
of_either_offer k s i (inl e) = rw e
of_either_offer k s i (inr e) = rw e

-- "An offer for service 0 uses both ramps and ten pairs": no other uses more than five, nor a ramp.
module _ (b : List ℕ) (none_stray : has_stray b ≡ false) (call : (call_of b ≡ 3) ⊎ (call_of b ≡ 4)) (other : service_of b ≢ 0) where
  unused_by_offer : (i : ℕ) → 16 ≤ i → between 32 71 i ≡ false → used_by_offer (service_of b) i ≡ false
  unfolding used_by_offer
  unused_by_offer i h e = rw (ne_eqb (service_of b) 0 other, lt-leb i 15 (omega arith), and-false (leb 14 i), and-false (ltb (service_of b) 4), e)

  unused : (i : ℕ) → 16 ≤ i → between 32 71 i ≡ false → used (call_of b) (service_of b) i ≡ false
  unused i h f =
      of_either_offer (call_of b) (service_of b) i call
      ∙ rw (lt-leb i 12 (omega arith), unused_by_offer i h f) (or-false (leb 6 i && false) ∙ and-false (leb 6 i))

  byte_zero : (i : ℕ) → 16 ≤ i → between 32 71 i ≡ false → byte b i ≡ 0
  unfolding has_stray
  byte_zero i h f =
      let j : 6 + (i - 6) ≡ i = omega arith in
      sym (get_or-drop 6 b (i - 6) 0 ∙ ap (byte b) j)
      ∙ unused_zero (used (call_of b) (service_of b)) 6 (drop 6 b) none_stray (i - 6) (ap (used (call_of b) (service_of b)) j ∙ unused i h f)

  word_zero : (i : ℕ) → 16 ≤ i → ((j : ℕ) → j < 4 → between 32 71 (i + j) ≡ false) → word_at b i ≡ pos 0
  unfolding word_at signed
  word_zero i h f =
      let first : i ≡ i + 0 = omega arith in
      rw (
        byte_zero i h (ap (between 32 71) first ∙ f 0 (omega arith)),
        byte_zero (i + 1) (omega arith) (f 1 (omega arith)),
        byte_zero (i + 2) (omega arith) (f 2 (omega arith)),
        byte_zero (i + 3) (omega arith) (f 3 (omega arith)),
      )

  before_pairs : (i : ℕ) → 16 ≤ i → i ≤ 28 → word_at b i ≡ pos 0
  before_pairs i h z = word_zero i h (λ j k. ap (λ (t : Bool). t && leb (i + j) 71) (lt-leb 32 (i + j) (omega arith)))

  past_five : (i : ℕ) → 72 ≤ i → word_at b i ≡ pos 0
  past_five i h = word_zero i (omega arith) (λ j k. ap (λ (t : Bool). leb 32 (i + j) && t) (lt-leb (i + j) 71 (omega arith)) ∙ and-false (leb 32 (i + j)))

  ramps_unsent : ramps_fit (offer_in b) ≡ true
  unfolding offer_in any_beyond
  ramps_unsent = rw (before_pairs 16 (omega arith) (omega arith), before_pairs 20 (omega arith) (omega arith))

  pub last_five_unsent : any_beyond (pos 0) (pos 0) (drop 3 (offer_in b)) 10 10 ≡ false
  unfolding offer_in words_at any_beyond
  last_five_unsent =
      rw (
        past_five 72 (omega arith),
        past_five 76 (omega arith),
        past_five 80 (omega arith),
        past_five 84 (omega arith),
        past_five 88 (omega arith),
        past_five 92 (omega arith),
        past_five 96 (omega arith),
        past_five 100 (omega arith),
        past_five 104 (omega arith),
        past_five 108 (omega arith),
      )

-- ---- an energy offer's ramps

ramp_within : (maximum ramp : ℤ) → ramp_beyond maximum ramp ≡ false → beyond (pos 0) most_ramp ramp ≡ false
unfolding ramp_beyond
ramp_within maximum ramp e =
    let t = or_left (beyond (pos 0) maximum ramp) (lt_z most_ramp ramp) e in
    rw (or_left (lt_z ramp (pos 0)) (lt_z maximum ramp) t, or_right (beyond (pos 0) maximum ramp) (lt_z most_ramp ramp) e)

ramps_sent : (c : List ℤ) (b : List ℕ) → ramp_refused c 0 (offer_in b) ≡ false → ramps_fit (offer_in b) ≡ true
unfolding offer_in ramp_refused any_beyond
ramps_sent c b e =
    rw (
      ramp_within _ _ (or_left (ramp_beyond (word c 7) (word_at b 16)) (ramp_beyond (word c 8) (word_at b 20)) e),
      ramp_within _ _ (or_right (ramp_beyond (word c 7) (word_at b 16)) (ramp_beyond (word c 8) (word_at b 20)) e),
    )

-- ---- an offer that passes 4 and 11 to 16

fourteen : (limits c : List ℤ) (s reason : ℕ) (o : List ℤ) → offer_number limits c s reason o ≡ 0 → ramp_refused c s o ≡ false
unfolding offer_number
fourteen limits c s reason o e =
    draw_zero _ 14 (omega arith) (then_zero _ _ (then_zero _ _ (then_zero _ _ (then_zero _ _ e).1).1).1).0

pub offer_fits : (limits c : List ℤ) (reason : ℕ) (b : List ℕ) → has_stray b ≡ false → (call_of b ≡ 3) ⊎ (call_of b ≡ 4)
    → offer_number limits c (service_of b) reason (offer_in b) ≡ 0 → ramps_fit (offer_in b) ≡ true
offer_fits limits c reason b none_stray call e = go (service_of b) refl
  where
    passed : ramp_refused c (service_of b) (offer_in b) ≡ false
    passed = fourteen limits c (service_of b) reason (offer_in b) e

    go : (s : ℕ) → service_of b ≡ s → ramps_fit (offer_in b) ≡ true
    go zero q = ramps_sent c b (ap (λ (s : ℕ). ramp_refused c s (offer_in b)) (sym q) ∙ passed)
    go (suc s) q = ramps_unsent b none_stray call (λ z. omega arith)

-- ---- there and back

unpacked : (u d : ℤ) → beyond (pos 0) most_ramp u ≡ false → beyond (pos 0) most_ramp d ≡ false
    → (quot_z (packed_ramps u d) ramp_unit ≡ u) × (rem_z (packed_ramps u d) ramp_unit ≡ d)
unpacked (pos u) (pos d) hu hd =
    let z = (within _ _ d hd).1 in
    (ap pos (omega arith), ap pos (omega arith))
unpacked (pos u) (negsuc d) hu hd = absurd (true≢false hd)
unpacked (negsuc u) d hu hd = absurd (true≢false hu)

-- Ramps that fit, one by one.
pub each_fits : (o : List ℤ) → ramps_fit o ≡ true → (beyond (pos 0) most_ramp (word o 1) ≡ false) × (beyond (pos 0) most_ramp (word o 2) ≡ false)
unfolding any_beyond
each_fits o e =
    let t = not-true _ e in
    let d = or_right (beyond (pos 0) most_ramp (word o 1)) _ t in
    (or_left (beyond (pos 0) most_ramp (word o 1)) _ t, or_left (beyond (pos 0) most_ramp (word o 2)) _ d)

-- What a cell holds is read back.
pub cell_back : (stamp now : ℕ) (o : List ℤ) → length o ≡ 23 → ramps_fit o ≡ true → cell_held (cell stamp (accepted_at now o)) ≡ accepted_at now o
unfolding cell cell_held
cell_back stamp now [] n e = absurd (omega arith)
cell_back stamp now (p ∷ []) n e = absurd (omega arith)
cell_back stamp now (p ∷ (u ∷ [])) n e = absurd (omega arith)
cell_back stamp now (p ∷ (u ∷ (d ∷ l))) n e =
    let fit = each_fits (p ∷ (u ∷ (d ∷ l))) e in
    let back = unpacked u d fit.0 fit.1 in
    λ i. record { offer = p ∷ (back.0 i ∷ (back.1 i ∷ l)); minute = pos now }

-- What is held under a stamp other than 0, which an empty cell has, is read back.
pub held_back : (stamp now : ℕ) (o : List ℤ) → (stamp ≡ 0 → ⊥) → length o ≡ 23 → ramps_fit o ≡ true → held stamp (cell stamp (accepted_at now o)) ≡ some (accepted_at now o)
unfolding held
held_back stamp now o n long fit = rw (stamped, eq-eqb stamp stamp refl) (ap some (cell_back stamp now o long fit))
  where
    stamped : word (cell stamp (accepted_at now o)) 0 ≡ pos stamp
    stamped = unfold cell in refl

-- A variation taken back leaves an empty cell, whose stamp is 0.
pub made_back : (p now : ℕ) (o : List ℤ) → length o ≡ 23 → ramps_fit o ≡ true
    → held (variation_stamp p) (holding (variation_stamp p) (variation_made now o)) ≡ variation_made now o
unfolding variation_made
made_back p now o long fit = go (all_blank (pairs o))
  where
    go : (t : Bool) → held (variation_stamp p) (holding (variation_stamp p) (cond t none (some (accepted_at now o)))) ≡ cond t none (some (accepted_at now o))
    go true = unfold held holding in rw (ne_eqb 0 (variation_stamp p) (λ z. omega arith))
    go false = unfold holding in held_back (variation_stamp p) now o (λ z. omega arith) long fit

pub length_cell : (stamp : ℕ) (h : Held) → length h.offer ≡ 23 → length (cell stamp h) ≡ 24
unfolding cell
length_cell stamp h n = ap (λ (k : ℕ). suc (suc (suc (suc k)))) (length-drop 3 h.offer ∙ omega arith)

pub length_holding : (stamp now : ℕ) (o : List ℤ) → length o ≡ 23 → length (holding stamp (variation_made now o)) ≡ 24
unfolding variation_made holding
length_holding stamp now o n = go (all_blank (pairs o))
  where
    go : (t : Bool) → length (holding stamp (cond t none (some (accepted_at now o)))) ≡ 24
    go true = refl
    go false = length_cell stamp (accepted_at now o) n
