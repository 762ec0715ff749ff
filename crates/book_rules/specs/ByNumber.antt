-- Document 01, "Who draws which number", number by number: the condition of each, on the calls that it names.
-- Demand 2 speaks of this list, in which a condition's place is its number; the order in which a call is tested is in Refusals.
-- A condition is asked whether a lower one applies or not. Of a period word that 10 refuses, what 17, 18 and 19 then ask has no meaning: 10 is lower.
use Rattle.std.specs.Prelude.{Bool, false, not, ◌&&◌, ◌||◌, List, [], ◌∷◌, ℕ, zero, suc, eqb, ℤ, get_or}
use Rattle.std.proofs.Math.Option.{Option, none, some}
use Rattle.offer_rules.specs.Numbers.{to_nat}
use Rattle.offer_rules.specs.Time.{next_period, slot_refused, period_refused}
use Rattle.offer_rules.specs.Offer.{Pair, pairs, Held, sum_of, out_of_range, blank_refused, non_blank_prices, rises, ramp_refused, proportion_refused, above_capacity}
use Rattle.offer_rules.specs.Gate.{gate_refuses}
use Rattle.book_rules.specs.Record.{call_of, facility_of, service_of, period_word, reason_of, word_a, word_b, capability_in, offer_in, is_record, outside, has_stray}
use Rattle.book_rules.specs.Words.{is_book}
use Rattle.book_rules.specs.Force.{View, InForce, in_force, will_stand, pairs_of, counted}
use Rattle.book_rules.specs.Refusals.{has_kind, clock_refused, outage_refused, notice_refused, withdrawal_refused, capability_refused, registration_refused, equal_words, grounds}
use Rattle.book_rules.specs.Book.{book_view}

abbrev pub is_call : ℕ → List ℕ → Bool
is_call k b = eqb (call_of b) k

abbrev pub is_offer : List ℕ → Bool
is_offer b = is_call 3 b || is_call 4 b

-- A test of the held standing offer, where there is one.
unfoldable pub of_held : (Held → Bool) → Option Held → Bool
of_held test none = false
of_held test (some h) = test h

module _ (vw : View) (b : List ℕ) where
  abbrev pub own_capability : List ℤ
  own_capability = vw.capability (facility_of b)

  abbrev pub own_pairs : List Pair
  own_pairs = pairs (offer_in b)

  abbrev pub own_force : InForce
  own_force = in_force vw (facility_of b) (service_of b) (to_nat (period_word b))

  -- "the offer that will stand afterwards"
  abbrev pub own_afterwards : InForce
  own_afterwards = will_stand vw (facility_of b) (service_of b) (to_nat (period_word b)) (offer_in b)

  abbrev pub own_held : Option Held
  own_held = vw.standing (facility_of b) (service_of b) (to_nat (period_word b))

  -- The one gate, of a period, old and new.
  abbrev pub own_gate : ℕ → List Pair → List Pair → Bool
  own_gate p old new = gate_refuses vw.now (grounds vw (facility_of b)) (service_of b) p (reason_of b) old new

  -- 5 to 19.
  unfoldable pub conditions_from_5 : List Bool
  conditions_from_5 =
      -- 5 "facility has kind neither 1 nor 2 in the book (calls 3, 4, 5, 8)", nor 3
      (((is_offer b || is_call 5 b) || is_call 8 b) && not (has_kind own_capability))
      -- 6 the clock
      ∷ ((is_call 1 b && clock_refused vw.now (word_a b))
      -- 7 "outage: ..; notice: ..; withdrawal: .."
      ∷ ((((is_call 5 b && outage_refused vw.now own_capability (word_a b) (word_b b)) || (is_call 6 b && notice_refused (reason_of b) (word_a b) (word_b b)))
      || (is_call 7 b && withdrawal_refused (reason_of b)))
      -- 8 "capability: .."
      ∷ ((is_call 2 b && capability_refused own_capability (capability_in b))
      -- 9 "mark for the service not 1", and a link's offers for services 1 to 4
      ∷ ((is_offer b && registration_refused own_capability (service_of b))
      -- 10 "slot outside 0–335; P begun .. or P ≥ 48·(d + 7) .. Also calls 8 and 9, for P."
      ∷ (((is_call 3 b && slot_refused (period_word b)) || (((is_call 4 b || is_call 8 b) || is_call 9 b) && period_refused vw.now (period_word b)))
      -- 11 "reason above 6, quantity outside 0–99,999, price outside its limits"
      ∷ ((is_offer b && out_of_range vw.limits (service_of b) (reason_of b) (offer_in b))
      -- 12 "blank pair with a price", or before a non-blank one
      ∷ ((is_offer b && blank_refused own_pairs)
      -- 13 "prices of non-blank pairs not strictly rising"
      ∷ ((is_offer b && not (rises (non_blank_prices own_pairs)))
      -- 14 "energy ramp outside 0 to its maximum", or above 9,999
      ∷ ((is_offer b && ramp_refused own_capability (service_of b) (offer_in b))
      -- 15 "generation reserve: proportion 0 or above its maximum"
      ∷ ((is_offer b && proportion_refused own_capability (service_of b) (offer_in b))
      -- 16 "total above generation or combined maximum (energy), or above the service's own"
      ∷ ((is_offer b && above_capacity own_capability (service_of b) (sum_of own_pairs))
      -- 17 "gate", of a standing offer over a held one and of a variation
      ∷ (((is_call 3 b && of_held (λ h. own_gate (next_period vw.now (to_nat (period_word b))) (pairs h.offer) own_pairs) own_held)
      || (is_call 4 b && own_gate (to_nat (period_word b)) (pairs_of own_force) (pairs_of own_afterwards)))
      -- 18 "standing offer equal to the held one in cell words 1–23", whatever its minute
      ∷ ((is_call 3 b && of_held (λ h. equal_words h.offer (offer_in b)) own_held)
      -- 19 "nothing in force (call 8)"
      ∷ ((is_call 8 b && eqb (counted own_force) 0)
      ∷ []))))))))))))))

-- The conditions of numbers 1 to 19, of a record on a book's words.
unfoldable pub conditions : List ℤ → List ℕ → List Bool
conditions w b =
    not (is_book w) ∷ (not (is_record b) ∷ (outside b (book_view w).facilities (book_view w).services ∷ (has_stray b ∷ conditions_from_5 (book_view w) b)))

-- Whether the condition of number n applies.
unfoldable pub applies : List ℤ → List ℕ → ℕ → Bool
applies w b zero = false
applies w b (suc n) = get_or (conditions w b) n false
