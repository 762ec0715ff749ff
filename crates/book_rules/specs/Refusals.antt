-- Document 01, "Who draws which number": what each call draws and answers, over what a state shows.
-- 2, 3 and 4 are in Record, 10 to 17 in offer_rules, 1 and 20 in Words.
use Rattle.std.specs.Prelude.{Bool, true, false, cond, not, ◌&&◌, ◌||◌, List, [], ◌∷◌, ℕ, zero, suc, eqb, ℤ, pos}
use Rattle.std.proofs.Math.Option.{Option, none, some}
use Rattle.std.specs.Int.Signed.{le_z}
use Rattle.offer_rules.specs.Numbers.{eq_z, to_nat, between, beyond, any_beyond, draw, ◌then◌}
use Rattle.offer_rules.specs.Time.{last_minute, next_period, slot_refused, period_refused}
use Rattle.offer_rules.specs.Kinds.{kind_row, is_kind, may_offer, may_be_marked}
use Rattle.offer_rules.specs.Offer.{Pair, pairs, Held, kind_of, mark_for, offer_number}
use Rattle.offer_rules.specs.Gate.{Grounds, gate_refuses}
use Rattle.book_rules.specs.Record.{call_of, facility_of, service_of, period_word, reason_of, word_a, word_b, capability_in, offer_in, record_number}
use Rattle.book_rules.specs.Force.{View, InForce, in_force, will_stand, pairs_of, counted, count_in_force, sum_in_force, Answer, plain, found, totalled}

-- 5 "facility has kind neither 1 nor 2 in the book (calls 3, 4, 5, 8)"; "Refusals 5 and 8 read 1, 2 or 3 for the kind" (document 02)
unfoldable pub has_kind : List ℤ → Bool
has_kind c = is_kind (kind_of c)

unfoldable pub facility_number : List ℤ → ℕ
facility_number c = draw (not (has_kind c)) 5

-- 6 "A below now or above 1,000,000,000"
abbrev pub clock_refused : ℕ → ℤ → Bool
clock_refused now a = beyond (pos now) (pos last_minute) a

unfoldable pub clock_number : ℕ → ℤ → ℕ
clock_number now a = draw (clock_refused now a) 6

-- 7 "outage: not 0 ≤ m ≤ now, or n outside 1–3 (load 1–48)"; a link's always (document 02)
abbrev pub outage_refused : ℕ → List ℤ → ℤ → ℤ → Bool
outage_refused now c m n = beyond (pos 0) (pos now) m || beyond (pos 1) (kind_row (kind_of c)).longest_outage n

unfoldable pub outage_number : ℕ → List ℤ → ℤ → ℤ → ℕ
outage_number now c m n = draw (outage_refused now c m n) 7

-- 7 "notice: reason not 3–5, or not 0 ≤ A ≤ B ≤ 40,000,000"
abbrev pub notice_refused : ℕ → ℤ → ℤ → Bool
notice_refused k a b = not (between 3 5 k) || not ((le_z (pos 0) a && le_z a b) && le_z b (pos 40000000))

unfoldable pub notice_number : ℕ → ℤ → ℤ → ℕ
notice_number k a b = draw (notice_refused k a b) 7

-- 7 "withdrawal: reason not 5"
abbrev pub withdrawal_refused : ℕ → Bool
withdrawal_refused k = not (eqb k 5)

unfoldable pub withdrawal_number : ℕ → ℕ
withdrawal_number k = draw (withdrawal_refused k) 7

abbrev pub is_registered : List ℤ → ℕ → Bool
is_registered c s = eq_z (mark_for c s) (pos 1)

-- 8 "capability: kind not 1 or 2 or unlike a held 1 or 2"; "Refusals 5 and 8 read 1, 2 or 3 for the kind" (document 02)
unfoldable pub kind_refused : List ℤ → ℤ → Bool
kind_refused held kind = not (is_kind kind) || (has_kind held && not (eq_z (kind_of held) kind))

-- "W1–W6 outside 0–99,999; W7, W8 outside 0–9,999; W9–W11 outside 0–1,000"
unfoldable pub maxima_refused : List ℤ → Bool
maxima_refused c = (any_beyond (pos 0) (pos 99999) c 1 6 || any_beyond (pos 0) (pos 9999) c 7 2) || any_beyond (pos 0) (pos 1000) c 9 3

-- A mark set among the first n that the facility's kind may not have.
unfoldable pub any_mark_astray : List ℤ → ℕ → Bool
any_mark_astray c zero = false
any_mark_astray c (suc n) = any_mark_astray c n || (is_registered c n && not (may_be_marked (kind_of c) n))

-- "a mark not 0 or 1; load with mark 0 or 4 set"; of a link "mark 0 only" (document 02)
unfoldable pub marks_refused : List ℤ → Bool
marks_refused c = any_beyond (pos 0) (pos 1) c 12 5 || any_mark_astray c 5

abbrev pub capability_refused : List ℤ → List ℤ → Bool
capability_refused held c = (kind_refused held (kind_of c) || maxima_refused c) || marks_refused c

unfoldable pub capability_number : List ℤ → List ℤ → ℕ
capability_number held c = draw (capability_refused held c) 8

-- 9 "mark for the service not 1"; "also covers [a link's] offers for services 1 to 4" (document 02), whatever its marks
abbrev pub registration_refused : List ℤ → ℕ → Bool
registration_refused c s = not (is_registered c s) || not (may_offer (kind_of c) s)

unfoldable pub registration_number : List ℤ → ℕ → ℕ
registration_number c s = draw (registration_refused c s) 9

-- 17
unfoldable pub grounds : View → ℕ → Grounds
grounds vw f = record { kind = kind_of (vw.capability f); outage = vw.outage f; surplus = vw.notice 3; shortfall = vw.notice 4; status = vw.notice 5 }

unfoldable pub gate_number : ℕ → Grounds → ℕ → ℕ → ℕ → List Pair → List Pair → ℕ
gate_number now g s p reason old new = draw (gate_refuses now g s p reason old new) 17

-- 18 "standing offer equal to the held one in cell words 1–23"; "The duplicate test ignores the minute" (document 02). Compared are proportion,
-- both ramps as word 2 gives them, and pairs; of what 4 and 14 let through that is the cell's words (Claims, EqualInCellWords).
unfoldable pub equal_words : List ℤ → List ℤ → Bool
equal_words [] [] = true
equal_words [] (y ∷ m) = false
equal_words (x ∷ l) [] = false
equal_words (x ∷ l) (y ∷ m) = eq_z x y && equal_words l m

-- 17 and 18 of a standing offer over a held one: "P is the slot's next period not yet begun; old is the held standing offer, new the one filed" (document 02).
unfoldable pub over_held : ℕ → Grounds → ℕ → ℕ → ℕ → List ℤ → List ℤ → ℕ
over_held now g s k reason old new = gate_number now g s (next_period now k) reason (pairs old) (pairs new) then draw (equal_words old new) 18

-- "A first one always passes the gate."
unfoldable pub revision_number : ℕ → Grounds → ℕ → ℕ → ℕ → Option Held → List ℤ → ℕ
revision_number now g s k reason none o = 0
revision_number now g s k reason (some h) o = over_held now g s k reason h.offer o

-- 10 "Also calls 8 and 9, for P."
unfoldable pub period_number : ℕ → ℤ → ℕ
period_number now p = draw (period_refused now p) 10

-- 19 "nothing in force (call 8)"
unfoldable pub force_number : InForce → ℕ
force_number x = draw (eqb (counted x) 0) 19

-- ---- each call, from 5 on

-- 5, 9 and 10 of an offer, which ask for none of its words; its slot or its period is refused or not.
unfoldable pub admission_number : List ℤ → ℕ → Bool → ℕ
admission_number c s refused = facility_number c then registration_number c s then draw refused 10

-- 11 to 18 of a standing offer that is admitted for slot k. Of its reason, "refusal 11 covers it" (document 02).
unfoldable pub admitted_standing : View → ℕ → ℕ → ℕ → ℕ → List ℤ → ℕ
admitted_standing vw f s k reason o =
    offer_number vw.limits (vw.capability f) s reason o
    then revision_number vw.now (grounds vw f) s k reason (vw.standing f s k) o

-- 11 to 17 of a variation that is admitted for period p. "Old is the offer in force before the call";
-- "The gate compares old with the offer that will stand afterwards" (document 02).
unfoldable pub admitted_variation : View → ℕ → ℕ → ℕ → ℕ → List ℤ → ℕ
admitted_variation vw f s p reason o =
    offer_number vw.limits (vw.capability f) s reason o
    then gate_number vw.now (grounds vw f) s p reason (pairs_of (in_force vw f s p)) (pairs_of (will_stand vw f s p o))

-- Where 10 is not drawn the slot is 0 to 335, and the period of a variation, a look-up or a total a count; `to_nat` then changes nothing.
unfoldable pub standing_number : View → ℕ → ℕ → ℤ → ℕ → List ℤ → ℕ
standing_number vw f s k reason o = admission_number (vw.capability f) s (slot_refused k) then admitted_standing vw f s (to_nat k) reason o

unfoldable pub variation_number : View → ℕ → ℕ → ℤ → ℕ → List ℤ → ℕ
variation_number vw f s p reason o = admission_number (vw.capability f) s (period_refused vw.now p) then admitted_variation vw f s (to_nat p) reason o

unfoldable pub look_up_number : View → ℕ → ℕ → ℤ → ℕ
look_up_number vw f s p =
    facility_number (vw.capability f)
    then period_number vw.now p
    then force_number (in_force vw f s (to_nat p))

-- The number of a record that passes 2, 3 and 4; byte 5 selects among the nine calls.
unfoldable pub judge : View → List ℕ → ℕ
judge vw b =
    cond (eqb (call_of b) 1) (clock_number vw.now (word_a b))
    (cond (eqb (call_of b) 2) (capability_number (vw.capability (facility_of b)) (capability_in b))
    (cond (eqb (call_of b) 3) (standing_number vw (facility_of b) (service_of b) (period_word b) (reason_of b) (offer_in b))
    (cond (eqb (call_of b) 4) (variation_number vw (facility_of b) (service_of b) (period_word b) (reason_of b) (offer_in b))
    (cond (eqb (call_of b) 5) (facility_number (vw.capability (facility_of b)) then outage_number vw.now (vw.capability (facility_of b)) (word_a b) (word_b b))
    (cond (eqb (call_of b) 6) (notice_number (reason_of b) (word_a b) (word_b b))
    (cond (eqb (call_of b) 7) (withdrawal_number (reason_of b))
    (cond (eqb (call_of b) 8) (look_up_number vw (facility_of b) (service_of b) (period_word b))
    (period_number vw.now (period_word b)))))))))

-- ---- what an accepted call answers

unfoldable pub look_up_reply : View → ℕ → ℕ → ℕ → Answer
look_up_reply vw f s p = found vw.now (in_force vw f s p)

unfoldable pub total_reply : View → ℕ → ℕ → Answer
total_reply vw s p = totalled (count_in_force vw s p vw.facilities) (sum_in_force vw s p vw.facilities)

unfoldable pub reply : View → List ℕ → Answer
reply vw b =
    cond (eqb (call_of b) 8) (look_up_reply vw (facility_of b) (service_of b) (to_nat (period_word b)))
    (cond (eqb (call_of b) 9) (total_reply vw (service_of b) (to_nat (period_word b))) (plain 0))

-- ---- a machine that follows these rules: a state, what it shows, and what an accepted call makes of it

module _ (σ : Type 0) (view : σ → View) (accept : σ → List ℕ → σ) where
  unfoldable pub number : σ → List ℕ → ℕ
  number x b = record_number b (view x).facilities (view x).services then judge (view x) b

  -- "if refused the state stays and the answer is its number and zeros"
  unfoldable pub answer : σ → List ℕ → Answer
  answer x b = cond (eqb (number x b) 0) (reply (view x) b) (plain (number x b))

  unfoldable pub after : σ → List ℕ → σ
  after x b = cond (eqb (number x b) 0) (accept x b) x
