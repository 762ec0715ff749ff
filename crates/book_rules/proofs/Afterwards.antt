-- What the words show once an offer is filed: the offer as it was filed, and for a variation's period "the offer that will stand afterwards".
use mathlib.Core.Path.{◌≡◌, refl, sym, ◌∙◌, ap, ap₂}
use mathlib.Core.Logic.{◌≢◌}
use mathlib.Core.Bool.{Bool, true, false, cond}
use mathlib.Core.List.{List}
use mathlib.Core.Option.{Option, none, some}
use Prim.Native.Nat.{ℕ, ◌+◌, ◌≤◌, ◌<◌}
use native.Mathlib.Omega.{arith}
use lib.IntN.{ℤ}
use lib.ListN.{length}
use borrow.Author.Tests.{eq-eqb, ne_eqb}
use Rattle.offer_rules.specs.Numbers.{to_nat, word}
use Rattle.offer_rules.specs.Time.{slots, slot_of}
use Rattle.offer_rules.specs.Offer.{pairs, Held, accepted_at, all_blank}
use Rattle.book_rules.specs.Record.{call_of, facility_of, service_of, period_word, reason_of, offer_in}
use Rattle.book_rules.specs.Words.{part, put, book_size, cell_place, standing_half, variation_half, cell, cell_held, holding, standing_stamp, variation_stamp}
use Rattle.book_rules.specs.Force.{first_of, in_force, variation_made, will_stand, pairs_of}
use Rattle.book_rules.specs.Book.{facilities_in, services_in, now_in, held, cell_in, write_cell, book_view, book_after}
use Rattle.book_rules.specs.ByNumber.{own_force, own_gate, conditions_from_5, conditions, applies}
use Rattle.book_rules.specs.Claims.{is_accepted, StandsAfterwards, HeldAsFiled}
use Rattle.book_rules.proofs.Parts.{part_put, part_apart, word_before}
use Rattle.book_rules.proofs.Calls.{named, standing_uses, variation_uses, length_offer, judge_standing}
use Rattle.book_rules.proofs.Cells.{held_back, made_back, length_cell, length_holding}
use Rattle.book_rules.proofs.Places.{cell_inside, cell_late, cells_apart}
use Rattle.book_rules.proofs.Rules.{standing_accepted, standing_fits, variation_fits}
use Rattle.book_rules.proofs.OneCall.{Passed, accepted_on, room_in, accept_standing, accept_variation}

-- ---- a cell written

module _ (w : List ℤ) (f s h k : ℕ) (c : List ℤ) (room : book_size (facilities_in w) (services_in w) ≤ length w) (hf : f < facilities_in w) (hs : s < services_in w)
    (hh : h < 2) (hk : k < slots) (wide : length c ≡ 24) where
  abbrev F : ℕ
  F = facilities_in w

  abbrev S : ℕ
  S = services_in w

  abbrev at : ℕ
  at = cell_place F S f s h k

  abbrev written : List ℤ
  written = put w at c

  fits : at + length c ≤ length w
  fits = omega (arith, cell_inside F S f s h k hf hs hh hk, wide)

  -- F and S stay.
  head_kept : (i : ℕ) → i < 4 → to_nat (word written i) ≡ to_nat (word w i)
  head_kept i z = ap to_nat (word_before w at c fits i (omega (arith, cell_late F S f s h k)))

  sized_alike : (h' : ℕ) → cell_in written f s h' k ≡ part (cell_place F S f s h' k) 24 written
  sized_alike h' = ap₂ (λ (m n : ℕ). part (cell_place m n f s h' k) 24 written) (head_kept 2 (omega arith)) (head_kept 3 (omega arith))

  there : cell_in written f s h k ≡ c
  there = sized_alike h ∙ part_put w at c fits 24 wide

  -- The cell of the other half is another.
  elsewhere : (h' : ℕ) → h' < 2 → h' ≢ h → cell_in written f s h' k ≡ cell_in w f s h' k
  elsewhere h' hh' n = sized_alike h' ∙ part_apart w at c fits (cell_place F S f s h' k) 24 λ a b. overlap a (omega (arith, wide))
    where
      overlap : at < cell_place F S f s h' k + 24 → cell_place F S f s h' k < at + 24 → ⊥
      overlap a b = n (cells_apart F S f s h' k f s h k hs hs hh' hh hk hk a b).2

-- ---- an offer as it was filed

module _ (w : List ℤ) (b : List ℕ) (accepted : is_accepted w b ≡ true) where
  passed : Passed w b
  passed = accepted_on w b accepted

  abbrev f : ℕ
  f = facility_of b

  abbrev s : ℕ
  s = service_of b

  abbrev o : List ℤ
  o = offer_in b

  standing_held : call_of b ≡ 3 → (book_view (book_after w b)).standing f s (to_nat (period_word b)) ≡ some (accepted_at (now_in w) o)
  unfolding book_view write_cell
  standing_held e =
      let n = named (facilities_in w) (services_in w) b passed.taken in
      let y = standing_uses b e in
      let k = to_nat (period_word b) in
      let slot = standing_accepted (book_view w) f s (period_word b) (reason_of b) o (sym (judge_standing (book_view w) b e) ∙ passed.judged) in
      let c = cell standing_stamp (accepted_at (now_in w) o) in
      let wide = length_cell standing_stamp (accepted_at (now_in w) o) (length_offer b) in
      ap (λ (v : List ℤ). held standing_stamp (cell_in v f s standing_half k)) (passed.left ∙ accept_standing w b e)
      ∙ ap (held standing_stamp) (there w f s standing_half k c (room_in w passed.usable) (n.facility_in y.0) (n.service_in y.1) (omega arith) slot.1 wide)
      ∙ held_back standing_stamp (now_in w) o (λ z. omega arith) (length_offer b) (standing_fits (book_view w) b n.none_stray e passed.judged)

  variation_held : call_of b ≡ 4 → (book_view (book_after w b)).variation f s (to_nat (period_word b)) ≡ variation_made (now_in w) o
  unfolding book_view write_cell
  variation_held e =
      let n = named (facilities_in w) (services_in w) b passed.taken in
      let y = variation_uses b e in
      let p = to_nat (period_word b) in
      let c = holding (variation_stamp p) (variation_made (now_in w) o) in
      let wide = length_holding (variation_stamp p) (now_in w) o (length_offer b) in
      ap (λ (v : List ℤ). held (variation_stamp p) (cell_in v f s variation_half (slot_of p))) (passed.left ∙ accept_variation w b e)
      ∙ ap (held (variation_stamp p))
      (there w f s variation_half (slot_of p) c (room_in w passed.usable) (n.facility_in y.0) (n.service_in y.1) (omega arith) (omega arith) wide)
      ∙ made_back p (now_in w) o (length_offer b) (variation_fits (book_view w) b n.none_stray e passed.judged)

pub held_as_filed : HeldAsFiled
unfolding HeldAsFiled variation_made
held_as_filed w b a = (standing_held w b a, variation_held w b a)

-- ---- what then stands

-- A cell gives its pairs back, whatever its ramps.
same_pairs : (p now : ℕ) (o : List ℤ) (standing : Option Held)
    → pairs_of (first_of (held (variation_stamp p) (holding (variation_stamp p) (variation_made now o))) standing) ≡ pairs_of (first_of (variation_made now o) standing)
unfolding variation_made
same_pairs p now o standing = go (all_blank (pairs o))
  where
    made : Bool → Option Held
    made t = cond t none (some (accepted_at now o))

    go : (t : Bool) → pairs_of (first_of (held (variation_stamp p) (holding (variation_stamp p) (made t))) standing) ≡ pairs_of (first_of (made t) standing)
    go true = unfold held holding in rw (ne_eqb 0 (variation_stamp p) (λ z. omega arith))
    go false = unfold held holding cell cell_held first_of pairs_of pairs in rw (eq-eqb (variation_stamp p) (variation_stamp p) refl)

module _ (w : List ℤ) (f s p : ℕ) (o : List ℤ) (room : book_size (facilities_in w) (services_in w) ≤ length w) (hf : f < facilities_in w) (hs : s < services_in w)
    (long : length o ≡ 23) where
  abbrev made : List ℤ
  made = holding (variation_stamp p) (variation_made (now_in w) o)

  stands_once_written : pairs_of (in_force (book_view (write_cell w f s variation_half (slot_of p) made)) f s p) ≡ pairs_of (will_stand (book_view w) f s p o)
  unfolding in_force will_stand book_view write_cell
  stands_once_written =
      let wide = length_holding (variation_stamp p) (now_in w) o long in
      ap₂ (λ (c c' : List ℤ). pairs_of (first_of (held (variation_stamp p) c) (held standing_stamp c')))
      (there w f s variation_half (slot_of p) made room hf hs (omega arith) (omega arith) wide)
      (elsewhere w f s variation_half (slot_of p) made room hf hs (omega arith) (omega arith) wide standing_half (omega arith) (λ z. omega arith))
      ∙ same_pairs p (now_in w) o (held standing_stamp (cell_in w f s standing_half (slot_of p)))

-- ---- all words and every variation

pub stands_afterwards : StandsAfterwards
unfolding StandsAfterwards applies conditions conditions_from_5
stands_afterwards w b usable taken call =
    let n = named (facilities_in w) (services_in w) b taken in
    let y = variation_uses b call in
    let p = to_nat (period_word b) in
    let stands = stands_once_written w (facility_of b) (service_of b) p (offer_in b) (room_in w usable) (n.facility_in y.0) (n.service_in y.1) (length_offer b) in
    rw call
    (ap (own_gate (book_view w) b p (pairs_of (own_force (book_view w) b)))
    (sym stands ∙ ap (λ (v : List ℤ). pairs_of (own_force (book_view v) b)) (sym (accept_variation w b call))))
