-- An offer's number in two parts: 5, 9 and 10, and what it draws once it is admitted; and a variation's cell.
use Rattle.std.proofs.Common.{◌≡◌, sym, ◌∙◌, Bool, true, false, List, ℕ, ℤ, inr, ◌⊎◌}
use Rattle.offer_rules.specs.Numbers.{to_nat, word, zeros, ◌then◌}
use Rattle.offer_rules.specs.Time.{slot_refused, period_refused}
use Rattle.offer_rules.specs.Offer.{pairs, accepted_at, all_blank, offer_number}
use Rattle.layout.proofs.Chains.{passed_first}
use Rattle.book_rules.specs.Record.{call_of, facility_of, service_of, period_word, reason_of, offer_in, has_stray}
use Rattle.book_rules.specs.Words.{part, clock_place, limits_place, facility_place, cell, ramps_fit, holding}
use Rattle.book_rules.specs.Force.{in_force, variation_made, will_stand, pairs_of}
use Rattle.book_rules.specs.Refusals.{judge, grounds, gate_number, admission_number, admitted_standing, admitted_variation, standing_number, variation_number}
use Rattle.book_rules.specs.Book.{facilities_in, services_in, book_view}
use Rattle.book_rules.proofs.Calls.{named, judge_standing, judge_variation}
use Rattle.book_rules.proofs.Cells.{last_five_unsent, offer_fits}
use Rattle.book_rules.proofs.Rules.{admitted_standing_fits}
use Rattle.offers.specs.PairTests.{UsesFive}
use Rattle.judging.specs.Tested.{Tested}

-- 5, 9 and 10 of the offer that a record carries.
abbrev pub admission_of : List ℤ → List ℕ → Bool → ℕ
admission_of w b is_refused = admission_number (part (facility_place (facility_of b)) 17 w) (service_of b) is_refused

module _ (w : List ℤ) (b : List ℕ) where
  pub standing_parts : call_of b ≡ 3
      → judge (book_view w) b
      ≡ (admission_of w b (slot_refused (period_word b)) then admitted_standing (book_view w) (facility_of b) (service_of b) (to_nat (period_word b)) (reason_of b) (offer_in b))
  unfolding standing_number book_view
  standing_parts c = judge_standing (book_view w) b c

  -- 11 to 16 of a variation, then 17
  abbrev pub own_offer_number : ℕ
  own_offer_number = offer_number (part limits_place 6 w) (part (facility_place (facility_of b)) 17 w) (service_of b) (reason_of b) (offer_in b)

  abbrev pub own_gate_number : ℕ
  own_gate_number =
      let vw = book_view w in
      let p = to_nat (period_word b) in
      gate_number (to_nat (word w clock_place)) (grounds vw (facility_of b)) (service_of b) p (reason_of b)
      (pairs_of (in_force vw (facility_of b) (service_of b) p)) (pairs_of (will_stand vw (facility_of b) (service_of b) p (offer_in b)))

  pub variation_parts : call_of b ≡ 4
      → judge (book_view w) b
      ≡ (admission_of w b (period_refused (to_nat (word w clock_place)) (period_word b)) then (own_offer_number then own_gate_number))
  unfolding variation_number admitted_variation book_view
  variation_parts c = judge_variation (book_view w) b c

  -- one that is admitted
  pub admitted_parts : call_of b ≡ 4 → admission_of w b (period_refused (to_nat (word w clock_place)) (period_word b)) ≡ 0
      → judge (book_view w) b ≡ (own_offer_number then own_gate_number)
  admitted_parts c z = variation_parts c ∙ passed_first _ _ z

-- An offer that draws none has ramps that its cell gives back.
module _ (w : List ℤ) (b : List ℕ) (t : Tested w b) where
  none_stray : has_stray b ≡ false
  none_stray = (named (facilities_in w) (services_in w) b t.is_taken).none_stray

  -- What its service doesn't use is empty.
  pub offer_uses_five : (call_of b ≡ 3) ⊎ (call_of b ≡ 4) → UsesFive (service_of b) (offer_in b)
  offer_uses_five c other = last_five_unsent b none_stray c other

  pub standing_ramps : call_of b ≡ 3 → (k : ℕ) → 0 ≡ admitted_standing (book_view w) (facility_of b) (service_of b) k (reason_of b) (offer_in b) → ramps_fit (offer_in b) ≡ true
  standing_ramps c k e = admitted_standing_fits (book_view w) b none_stray k c (sym e)

  pub variation_ramps : call_of b ≡ 4 → 0 ≡ own_offer_number w b → ramps_fit (offer_in b) ≡ true
  variation_ramps c z = offer_fits _ _ (reason_of b) b none_stray (inr c) (sym z)

-- A variation's cell: empty where its pairs are all blank, else stamped.
module _ (stamp now : ℕ) (o : List ℤ) where
  pub empty_cell : all_blank (pairs o) ≡ true → cell 0 (accepted_at 0 (zeros 23)) ≡ holding stamp (variation_made now o)
  unfolding cell holding variation_made
  empty_cell h = rw h

  pub stamped_cell : all_blank (pairs o) ≡ false → cell stamp (accepted_at now o) ≡ holding stamp (variation_made now o)
  unfolding holding variation_made
  stamped_cell h = rw h
