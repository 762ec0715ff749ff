-- A book's words and a list of accepted calls that show the same, and that every accepted call keeps them so.
use mathlib.Core.Path.{◌≡◌, refl, sym, ◌∙◌, ap, ap₂, subst}
use mathlib.Core.Logic.{◌≢◌}
use mathlib.Core.Bool.{Bool, true, false, not, ◌&&◌, true≢false}
use mathlib.Core.List.{List, [], ◌∷◌}
use mathlib.Core.Option.{Option, none, some}
use Prim.Native.Nat.{ℕ, ◌+◌, ◌≤◌, ◌<◌}
use native.Mathlib.Omega.{arith}
use native.Mathlib.Decide.{ℕ_discrete}
use lib.Dec.{leb}
use lib.IntN.{ℤ, pos, negsuc}
use lib.Signed.{le_z}
use lib.ListN.{length}
use borrow.Author.Tests.{leb-true, ne_eqb, le-ltb, not-false}
use Rattle.offer_rules.specs.Numbers.{to_nat, word, between, beyond}
use Rattle.offer_rules.specs.Time.{slot_of, start_of, horizon_end}
use Rattle.offer_rules.specs.Offer.{Held, accepted_at}
use Rattle.offer_rules.specs.Gate.{Window}
use Rattle.offer_rules.proofs.Drawn.{and_left, and_right, or_left, draw_zero}
use Rattle.offer_rules.proofs.Ranges.{within}
use Rattle.offer_rules.proofs.Periods.{one_of_a_slot}
use Rattle.book_rules.specs.Record.{facility_of, service_of, period_word, reason_of, word_a, word_b, capability_in, offer_in}
use Rattle.book_rules.specs.Words.{part, put, book_size, book_mark, book_version, clock_place, limits_place, cell_place, standing_half, variation_half, cell, holding, standing_stamp, variation_stamp}
use Rattle.book_rules.specs.Force.{variation_made}
use Rattle.book_rules.specs.Refusals.{judge, clock_number, notice_number}
use Rattle.book_rules.specs.Book.{facilities_in, services_in, now_in, window_in, held, book_view, book_accept}
use Rattle.book_rules.specs.ListMachine.{list_clock, list_now, list_view}
use Rattle.book_rules.proofs.Parts.{length_put, part_put, part_apart, word_before, word_of_part}
use Rattle.book_rules.proofs.Calls.{Which, is_clock, is_capability, is_standing, is_variation, is_outage, is_notice, is_withdrawal, is_look_up, is_total, Named, judge_clock, judge_standing, judge_variation, judge_notice, capability_uses, standing_uses, variation_uses, outage_uses}
use Rattle.book_rules.proofs.Places.{Key, clock_k, notice_k, capability_k, outage_k, standing_k, variation_k, Key-discrete, place, width, spot, Valid, place_inside, place_late, limits_apart, places_apart, TwoPeriods, two_periods}
use Rattle.book_rules.proofs.Filings.{window_words, offer_words, listed, shown, Files, FilesNothing, clock_files, capability_files, standing_files, variation_files, outage_files, notice_files, withdrawal_files, look_up_files, total_files}
use Rattle.book_rules.proofs.Rules.{Agree, standing_accepted, variation_accepted, standing_fits, variation_fits}

-- What is asked of a variation's key, by its period, and of no other.
abbrev pub OfVariations : (ℕ → Type 0) → Key → Type 0
OfVariations P clock_k = Unit {0}
OfVariations P (notice_k k) = Unit {0}
OfVariations P (capability_k f) = Unit {0}
OfVariations P (outage_k f) = Unit {0}
OfVariations P (standing_k f s k) = Unit {0}
OfVariations P (variation_k f s p) = P p

-- A key that the rules may ask for at this time: they ask for no variation of a period that has begun.
abbrev pub Alive : ℕ → Key → Type 0
Alive now = OfVariations (λ p. now < start_of p)

-- A key that may be filed under at this time.
abbrev Near : ℕ → Key → Type 0
Near now = OfVariations (λ p. (now < start_of p) × (p < horizon_end now))

-- A variation's cell holds nothing for another period.
abbrev HoldsNoOther : Key → List ℤ → Type 0
HoldsNoOther κ v = OfVariations (λ p. (q : ℕ) → q ≢ p → held (variation_stamp q) v ≡ none) κ

alive_before : (m n : ℕ) (κ : Key) → m ≤ n → Alive n κ → Alive m κ
alive_before m n clock_k h a = tt
alive_before m n (notice_k k) h a = tt
alive_before m n (capability_k f) h a = tt
alive_before m n (outage_k f) h a = tt
alive_before m n (standing_k f s k) h a = tt
alive_before m n (variation_k f s p) h a = omega arith

-- A cell with another stamp holds nothing.
pub other_stamp : (n m : ℕ) (c : List ℤ) → word c 0 ≡ pos m → m ≢ n → held n c ≡ none
unfolding held
other_stamp n m c e h = rw (e, ne_eqb m n h)

-- Two periods have two stamps.
stamps_differ : (q p : ℕ) → q ≢ p → variation_stamp p ≢ variation_stamp q
stamps_differ q p n e = n (omega arith)

none_for_another : (p : ℕ) (x : Option Held) (q : ℕ) → q ≢ p → held (variation_stamp q) (holding (variation_stamp p) x) ≡ none
unfolding holding cell
none_for_another p none q n = other_stamp (variation_stamp q) 0 (holding (variation_stamp p) none) refl (λ e. omega arith)
none_for_another p (some h) q n = other_stamp (variation_stamp q) (variation_stamp p) (holding (variation_stamp p) (some h)) refl (stamps_differ q p n)

-- Back from words to what they show.
offer_back : List ℤ → Option Held
offer_back [] = none
offer_back (m ∷ o) = some (record { offer = o; minute = m })

pub offer_there_and_back : (x y : Option Held) → offer_words x ≡ offer_words y → x ≡ y
unfolding offer_words offer_back
offer_there_and_back x y e = sym (back x) ∙ ap offer_back e ∙ back y
  where
    back : (x : Option Held) → offer_back (offer_words x) ≡ x
    back none = refl
    back (some h) = refl

pub window_there_and_back : (x y : Window) → window_words x ≡ window_words y → x ≡ y
unfolding window_words window_in
window_there_and_back x y e = ap window_in e

-- An accepted notice is of kind 3, 4 or 5.
pub notice_kinds : (k : ℕ) (a z : ℤ) → notice_number k a z ≡ 0 → (3 ≤ k) × (k ≤ 5)
unfolding notice_number
notice_kinds k a z e =
    let t = not-false (between 3 5 k) (or_left (not (between 3 5 k)) (not ((le_z (pos 0) a && le_z a z) && le_z z (pos 40000000))) (draw_zero _ 7 (omega arith) e)) in
    (leb-true 3 k (and_left (leb 3 k) (leb k 5) t), leb-true k 5 (and_right (leb 3 k) (leb k 5) t))

-- The views agree on every facility.
abbrev pub Everyone : ℕ → Type 0
Everyone f = Unit {0}

module _ (F S : ℕ) (limits : List ℤ) where
  pub record Same (w : List ℤ) (l : List (List ℕ)) : Type 0 where
    pub fits : book_size F S ≤ length w
    pub mark_is : word w 0 ≡ book_mark
    pub version_is : word w 1 ≡ book_version
    pub F-is : word w 2 ≡ pos F
    pub S-is : word w 3 ≡ pos S
    pub limits_is : part limits_place 6 w ≡ limits
    pub timely : beyond (pos 0) (pos 1000000000) (list_clock l) ≡ false
    pub at_same : (κ : Key) → Valid F S κ → Alive (list_now l) κ → shown κ (part (place F S κ) (width κ) w) ≡ listed l κ
    -- Nothing is filed past the horizon.
    pub none_far : (f s p : ℕ) → horizon_end (list_now l) ≤ p → listed l (variation_k f s p) ≡ []

  -- ---- what they show

  module _ (w : List ℤ) (l : List (List ℕ)) (r : Same w l) where
    pub facilities_is : facilities_in w ≡ F
    facilities_is = ap to_nat r.F-is

    pub services_is : services_in w ≡ S
    services_is = ap to_nat r.S-is

    pub clock_is : word w clock_place ≡ list_clock l
    unfolding shown listed place width
    clock_is = sym (word_of_part clock_place 1 0 w (omega arith)) ∙ ap (λ (c : List ℤ). word c 0) (r.at_same clock_k tt tt)

    pub now_is : now_in w ≡ list_now l
    now_is = ap to_nat clock_is

    pub agree : Agree F S Everyone (book_view w) (list_view F S limits l)
    unfolding book_view list_view shown listed place width window_in window_words
    agree = record {
      F-is = facilities_is;
      F-is' = refl;
      S-is = services_is;
      S-is' = refl;
      limits_same = r.limits_is;
      now_same = ap to_nat clock_is;
      capability_same = λ f _ hf. r.at_same (capability_k f) hf tt;
      outage_same = λ f _ hf. ap window_in (r.at_same (outage_k f) hf tt);
      notice_same = λ k a z. ap window_in (r.at_same (notice_k k) (a, z) tt);
      standing_same = λ f s k _ hf hs hk.
          ap₂ (λ (m n : ℕ). held standing_stamp (part (cell_place m n f s standing_half k) 24 w)) facilities_is services_is
          ∙ offer_there_and_back _ _ (r.at_same (standing_k f s k) (hf, hs, hk) tt);
      variation_same = λ f s p _ hf hs hp.
          ap₂ (λ (m n : ℕ). held (variation_stamp p) (part (cell_place m n f s variation_half (slot_of p)) 24 w)) facilities_is services_is
          ∙ offer_there_and_back _ _ (r.at_same (variation_k f s p) (hf, hs) (rw (ap to_nat clock_is) at hp));
    }

  -- The clock after a call is no earlier, and in time.
  abbrev Later : List ℕ → List (List ℕ) → Type 0
  Later b l = (list_now l ≤ list_now (b ∷ l)) × (beyond (pos 0) (pos 1000000000) (list_clock (b ∷ l)) ≡ false)

  -- ---- one more filing

  module _ (w : List ℤ) (l : List (List ℕ)) (r : Same w l) (b : List ℕ) (κ₀ : Key) (v : List ℤ) (x : Files (list_now l) b κ₀ v)
      (valid : Valid F S κ₀) (no_other : HoldsNoOther κ₀ v) (later : Later b l) (near : Near (list_now l) κ₀) where
    abbrev written : List ℤ
    written = put w (place F S κ₀) v

    room : place F S κ₀ + length v ≤ length w
    room = omega (arith, place_inside F S κ₀ valid, r.fits, x.sized)

    word_kept : (i : ℕ) → i < 4 → word written i ≡ word w i
    word_kept i h = word_before w (place F S κ₀) v room i (omega (arith, place_late F S κ₀ valid))

    apart_from : (a n : ℕ) → (place F S κ₀ < a + n → a < place F S κ₀ + width κ₀ → ⊥) → part a n written ≡ part a n w
    apart_from a n h = part_apart w (place F S κ₀) v room a n (λ p q. h p (omega (arith, x.sized)))

    -- Under the key itself.
    at_key : shown κ₀ (part (place F S κ₀) (width κ₀) written) ≡ listed (b ∷ l) κ₀
    at_key = ap (shown κ₀) (part_put w (place F S κ₀) v room (width κ₀) x.sized) ∙ x.shows l refl

    -- Under a key with another place.
    at_other : (κ : Key) → Valid F S κ → spot κ ≢ spot κ₀ → part (place F S κ) (width κ) written ≡ part (place F S κ) (width κ) w
    at_other κ vκ n = apart_from (place F S κ) (width κ) (λ p q. n (places_apart F S κ κ₀ vκ valid p q))

    -- Under a key with the same place, another period of the slot: the stamp tells, and nothing is filed under it.
    at_overwritten : (κ : Key) → Alive (list_now l) κ → κ ≢ κ₀ → spot κ ≡ spot κ₀ → shown κ (part (place F S κ) (width κ) written) ≡ listed l κ
    unfolding TwoPeriods
    at_overwritten κ a n m = let t = two_periods κ κ₀ n m in go t.0 t.1 t.2 t.3 t.4 t.5 t.6 t.7
      where
        go : (f s q p : ℕ) → κ ≡ variation_k f s q → κ₀ ≡ variation_k f s p → q ≢ p → slot_of q ≡ slot_of p
            → shown κ (part (place F S κ) (width κ) written) ≡ listed l κ
        go f s q p eκ e₀ n m =
            let a' : list_now l < start_of q = subst (Alive (list_now l)) eκ a in
            let near' : (list_now l < start_of p) × (p < horizon_end (list_now l)) = subst (Near (list_now l)) e₀ near in
            let other : (q : ℕ) → q ≢ p → held (variation_stamp q) v ≡ none = subst (λ (k : Key). HoldsNoOther k v) e₀ no_other in
            let there : place F S (variation_k f s q) ≡ place F S κ₀ = unfold place in ap (λ (k : ℕ). cell_place F S f s variation_half k) m ∙ ap (place F S) (sym e₀) in
            let wide : width (variation_k f s q) ≡ width κ₀ = unfold width in ap width (sym e₀) in
            let raw : part (place F S (variation_k f s q)) (width (variation_k f s q)) written ≡ v =
            ap₂ (λ (i j : ℕ). part i j written) there wide ∙ part_put w (place F S κ₀) v room (width κ₀) x.sized in
            ap (λ (k : Key). shown k (part (place F S k) (width k) written)) eκ
            ∙ ap (shown (variation_k f s q)) raw
            ∙ gone f s q (other q n)
            ∙ sym (r.none_far f s q (one_of_a_slot (list_now l) p q near'.0 near'.1 a' n m))
            ∙ ap (listed l) (sym eκ)
          where
            gone : (f s q : ℕ) → held (variation_stamp q) v ≡ none → shown (variation_k f s q) v ≡ []
            gone f s q e = unfold shown offer_words in ap offer_words e

    at_after : (κ : Key) → Valid F S κ → Alive (list_now (b ∷ l)) κ → shown κ (part (place F S κ) (width κ) written) ≡ listed (b ∷ l) κ
    at_after κ vκ a = go (Key-discrete ℕ_discrete κ κ₀) (Key-discrete ℕ_discrete (spot κ) (spot κ₀))
      where
        a' : Alive (list_now l) κ
        a' = alive_before (list_now l) (list_now (b ∷ l)) κ later.0 a

        go : Dec (κ ≡ κ₀) → Dec (spot κ ≡ spot κ₀) → shown κ (part (place F S κ) (width κ) written) ≡ listed (b ∷ l) κ
        go (yes q) d = subst (λ (k : Key). shown k (part (place F S k) (width k) written) ≡ listed (b ∷ l) k) (sym q) at_key
        go (no q) (yes m) = at_overwritten κ a' q m ∙ sym (x.keeps l κ q)
        go (no q) (no m) = ap (shown κ) (at_other κ vκ m) ∙ r.at_same κ vκ a' ∙ sym (x.keeps l κ q)

    far_after : (f s p : ℕ) → horizon_end (list_now (b ∷ l)) ≤ p → listed (b ∷ l) (variation_k f s p) ≡ []
    far_after f s p h = go (Key-discrete ℕ_discrete (variation_k f s p) κ₀)
      where
        go : Dec (variation_k f s p ≡ κ₀) → listed (b ∷ l) (variation_k f s p) ≡ []
        go (yes q) = let t : Near (list_now l) (variation_k f s p) = subst (Near (list_now l)) (sym q) near in absurd (omega (arith, t.1, later.0))
        go (no q) = x.keeps l (variation_k f s p) q ∙ r.none_far f s p (omega (arith, later.0))

    pub filed_same : Same (book_accept w b) (b ∷ l)
    filed_same = rw (x.writes w (now_is w l r), facilities_is w l r, services_is w l r) (record {
      fits = omega (arith, length_put w (place F S κ₀) v room, r.fits);
      mark_is = word_kept 0 (omega arith) ∙ r.mark_is;
      version_is = word_kept 1 (omega arith) ∙ r.version_is;
      F-is = word_kept 2 (omega arith) ∙ r.F-is;
      S-is = word_kept 3 (omega arith) ∙ r.S-is;
      limits_is = apart_from limits_place 6 (limits_apart F S κ₀ valid) ∙ r.limits_is;
      timely = later.1;
      at_same = at_after;
      none_far = far_after;
    })

  unfiled_same : (w : List ℤ) (l : List (List ℕ)) (b : List ℕ) → FilesNothing b → Same w l → Same (book_accept w b) (b ∷ l)
  unfiled_same w l b x r = rw (x.writes_none w) (record {
    fits = r.fits;
    mark_is = r.mark_is;
    version_is = r.version_is;
    F-is = r.F-is;
    S-is = r.S-is;
    limits_is = r.limits_is;
    timely = rw still r.timely;
    at_same = λ κ v a. r.at_same κ v (rw (ap to_nat still) at a) ∙ sym (x.keeps_all l κ);
    none_far = λ f s p h. x.keeps_all l (variation_k f s p) ∙ r.none_far f s p (rw (ap to_nat still) at h);
  })
    where
      still : list_clock (b ∷ l) ≡ list_clock l
      still = unfold listed in ap (λ (c : List ℤ). word c 0) (x.keeps_all l clock_k)

  -- ---- the clock

  -- An accepted clock call never goes back, and stays in time.
  pub clock_rises : (now : ℕ) (a : ℤ) → clock_number now a ≡ 0 → (now ≤ to_nat a) × (beyond (pos 0) (pos 1000000000) a ≡ false)
  unfolding clock_number
  clock_rises now (pos a) e =
      let t = within _ _ a (draw_zero _ 6 (omega arith) e) in
      (omega (arith, t.0), rw (le-ltb a 0 (omega arith), le-ltb 1000000000 a (omega (arith, t.1))))
  clock_rises now (negsuc a) e = absurd (true≢false (draw_zero true 6 (omega arith) e))

  is_clock_k : Key → Bool
  is_clock_k clock_k = true
  is_clock_k (notice_k k) = false
  is_clock_k (capability_k f) = false
  is_clock_k (outage_k f) = false
  is_clock_k (standing_k f s k) = false
  is_clock_k (variation_k f s p) = false

  -- A filing under any other key leaves the clock.
  clock_stays : (w : List ℤ) (l : List (List ℕ)) (b : List ℕ) (κ : Key) (v : List ℤ) → Same w l → Files (list_now l) b κ v → is_clock_k κ ≡ false → Later b l
  unfolding listed is_clock_k
  clock_stays w l b κ v r x e =
      let q : list_clock (b ∷ l) ≡ list_clock l = ap (λ (c : List ℤ). word c 0) (x.keeps l clock_k (λ p. true≢false (ap is_clock_k p ∙ e))) in
      let h = ap to_nat q in
      (omega arith, rw q r.timely)

  -- ---- every accepted call

  pub accept_same : (w : List ℤ) (l : List (List ℕ)) (b : List ℕ) → Same w l → Named F S b → judge (book_view w) b ≡ 0 → Same (book_accept w b) (b ∷ l)
  unfolding is_clock_k
  accept_same w l b r n e = go n.which
    where
      now≡ : (book_view w).now ≡ list_now l
      now≡ = unfold book_view in now_is w l r

      now : ℕ
      now = list_now l

      file : (κ : Key) (v : List ℤ) → Files now b κ v → Valid F S κ → HoldsNoOther κ v → is_clock_k κ ≡ false → Near (list_now l) κ → Same (book_accept w b) (b ∷ l)
      file κ v x vκ st c near = filed_same w l r b κ v x vκ st (clock_stays w l b κ v r x c) near

      go : Which b → Same (book_accept w b) (b ∷ l)
      go (is_clock k) =
          let x = clock_files b now k in
          let t = clock_rises (book_view w).now (word_a b) (sym (judge_clock (book_view w) b k) ∙ e) in
          let q : list_clock (b ∷ l) ≡ word_a b = unfold shown listed in sym (ap (λ (c : List ℤ). word c 0) (x.shows l refl)) in
          let h = ap to_nat q in
          filed_same w l r b clock_k (word_a b ∷ []) x tt tt (omega (arith, t.0, now≡), rw q t.1) tt
      go (is_capability k) = file (capability_k (facility_of b)) (capability_in b) (capability_files b now k) (n.facility_in (capability_uses b k)) tt refl tt
      go (is_standing k) =
          let y = standing_uses b k in
          let s = standing_accepted (book_view w) (facility_of b) (service_of b) (period_word b) (reason_of b) (offer_in b) (sym (judge_standing (book_view w) b k) ∙ e) in
          let x = standing_files b (to_nat (period_word b)) s.0 now (standing_fits (book_view w) b n.none_stray k e) k in
          file (standing_k (facility_of b) (service_of b) (to_nat (period_word b))) (cell standing_stamp (accepted_at now (offer_in b))) x
          (n.facility_in y.0, n.service_in y.1, s.1) tt refl tt
      go (is_variation k) =
          let y = variation_uses b k in
          let s = variation_accepted (book_view w) (facility_of b) (service_of b) (period_word b) (reason_of b) (offer_in b) (sym (judge_variation (book_view w) b k) ∙ e) in
          let p = to_nat (period_word b) in
          let made = variation_made now (offer_in b) in
          let x = variation_files b p s.0 now (variation_fits (book_view w) b n.none_stray k e) k in
          file (variation_k (facility_of b) (service_of b) p) (holding (variation_stamp p) made) x
          (n.facility_in y.0, n.service_in y.1) (none_for_another p made) refl (omega (arith, s.1, now≡), omega (arith, s.2, now≡))
      go (is_outage k) = file (outage_k (facility_of b)) _ (outage_files b now k) (n.facility_in (outage_uses b k)) tt refl tt
      go (is_notice k) =
          file (notice_k (reason_of b)) _ (notice_files b now k) (notice_kinds (reason_of b) (word_a b) (word_b b) (sym (judge_notice (book_view w) b k) ∙ e)) tt refl tt
      go (is_withdrawal k) = file (notice_k 5) _ (withdrawal_files b now k) (omega arith) tt refl tt
      go (is_look_up k) = unfiled_same w l b (look_up_files b k) r
      go (is_total k) = unfiled_same w l b (total_files b k) r
