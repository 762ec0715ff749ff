-- Demands 1 and 2: the number drawn is the lowest whose condition applies, and a refused call changes nothing.
use mathlib.Core.Path.{◌≡◌, refl, sym, ◌∙◌, ap, ap₂}
use mathlib.Core.Logic.{◌⊎◌, inl, inr, ⊎_elim}
use mathlib.Core.Bool.{Bool, true, false, cond, not, false≢true, or-false}
use mathlib.Core.List.{List, [], ◌∷◌}
use mathlib.Core.Option.{Option, none, some}
use Prim.Native.Nat.{ℕ, zero, suc, ◌+◌, ◌≤◌, ◌<◌}
use native.Mathlib.Omega.{arith}
use lib.Dec.{eqb}
use lib.IntN.{ℤ}
use lib.ListN.{get_or}
use borrow.Author.Tests.{eqb-true, eqb-false, eq-eqb, ne_eqb}
use Rattle.offer_rules.specs.Numbers.{eq_z, to_nat, draw, ◌then◌}
use Rattle.offer_rules.specs.Time.{next_period}
use Rattle.offer_rules.specs.Offer.{pairs, Held, any_pair, is_priced_blank, blank_before_filled, blank_refused, offer_number}
use Rattle.offer_rules.specs.Gate.{Grounds, gate_refuses}
use Rattle.offer_rules.proofs.Periods.{next_is_one}
use Rattle.offer_rules.proofs.Blanks.{none_before}
use Rattle.offer_rules.proofs.Ranges.{same_word}
use Rattle.offer_rules.proofs.Drawn.{and_left, and_right, or_right, then_eq, then_zero, draw_zero, then_assoc}
use Rattle.book_rules.specs.Record.{period_word, offer_in, is_record, outside, has_stray, record_number}
use Rattle.book_rules.specs.Words.{is_book}
use Rattle.book_rules.specs.Force.{View, Answer, plain}
use Rattle.book_rules.specs.Refusals.{judge, reply, clock_number, capability_number, facility_number, registration_number, admission_number, admitted_standing, admitted_variation, over_held, revision_number, gate_number, outage_number, notice_number, withdrawal_number, period_number, force_number, standing_number, variation_number, look_up_number, equal_words, number, answer, after}
use Rattle.book_rules.specs.Book.{book_view, book_accept, book_answer, book_after}
use Rattle.book_rules.specs.ByNumber.{of_held, own_gate, conditions_from_5, conditions, applies}
use Rattle.book_rules.specs.Claims.{RefusedChangesNothing, AcceptedExactly, LowestThatApplies, RevisedAtNextPeriod, OffersBlanksLast, NeverEqualToHeld}
use Rattle.book_rules.proofs.Calls.{Which, is_clock, is_capability, is_standing, is_variation, is_outage, is_notice, is_withdrawal, is_look_up, is_total, named, judge_clock, judge_capability, judge_standing, judge_variation, judge_outage, judge_notice, judge_withdrawal, judge_look_up, judge_total}
use Rattle.book_rules.proofs.Striking.{reply_number}

-- The first number from n on whose condition applies; 0 where none does.
unfoldable lowest : ℕ → List Bool → ℕ
lowest n [] = 0
lowest n (t ∷ l) = draw t n then lowest (suc n) l

-- ---- laws of numbers drawn in order

skip : (n m : ℕ) → (draw false n then m) ≡ m
unfolding draw ◌then◌
skip n m = refl

last_drawn : (n : ℕ) → (n then 0) ≡ n
unfolding ◌then◌
last_drawn n = go (eqb n 0) refl
  where
    go : (t : Bool) → eqb n 0 ≡ t → cond t 0 n ≡ n
    go true e = sym (eqb-true n 0 e)
    go false e = refl

-- ---- each call

held_numbers : (now : ℕ) (g : Grounds) (s k reason : ℕ) (held : Option Held) (o : List ℤ)
    → revision_number now g s k reason held o
    ≡ (draw (of_held (λ h. gate_refuses now g s (next_period now k) reason (pairs h.offer) (pairs o)) held) 17 then draw (of_held (λ h. equal_words h.offer o) held) 18)
unfolding gate_number over_held revision_number of_held draw
held_numbers now g s k reason none o = sym (skip 17 (draw false 18))
held_numbers now g s k reason (some h) o = refl

module _ (vw : View) (b : List ℕ) where
  call_lowest : Which b → judge vw b ≡ lowest 5 (conditions_from_5 vw b)
  unfolding conditions_from_5 lowest
  call_lowest (is_clock e) = judge_clock vw b e ∙ unfold clock_number in rw e (simp (or-false, skip, last_drawn))
  call_lowest (is_capability e) = judge_capability vw b e ∙ unfold capability_number in rw e (simp (or-false, skip, last_drawn))
  call_lowest (is_standing e) =
      judge_standing vw b e
      ∙ unfold standing_number admission_number facility_number registration_number admitted_standing offer_number in
      rw (e, held_numbers) (simp (or-false, skip, last_drawn, then_assoc))
  call_lowest (is_variation e) =
      judge_variation vw b e
      ∙ unfold variation_number admission_number facility_number registration_number admitted_variation offer_number gate_number in rw e (simp (or-false, skip, last_drawn, then_assoc))
  call_lowest (is_outage e) = judge_outage vw b e ∙ unfold facility_number outage_number in rw e (simp (or-false, skip, last_drawn))
  call_lowest (is_notice e) = judge_notice vw b e ∙ unfold notice_number in rw e (simp (or-false, skip, last_drawn))
  call_lowest (is_withdrawal e) = judge_withdrawal vw b e ∙ unfold withdrawal_number in rw e (simp (or-false, skip, last_drawn))
  call_lowest (is_look_up e) = judge_look_up vw b e ∙ unfold look_up_number facility_number period_number force_number in rw e (simp (or-false, skip, last_drawn))
  call_lowest (is_total e) = judge_total vw b e ∙ unfold period_number in rw e (simp (or-false, skip, last_drawn))

-- ---- all words and bytes

refused_on : (w : List ℤ) (b : List ℕ) → is_book w ≡ true → (book_answer w b).number ≡ number (List ℤ) book_view book_accept w b
unfolding book_answer answer plain
refused_on w b e = rw e (go (number (List ℤ) book_view book_accept w b) (eqb (number (List ℤ) book_view book_accept w b) 0) refl)
  where
    go : (n : ℕ) (t : Bool) → eqb n 0 ≡ t → (cond t (reply (book_view w) b) (plain n)).number ≡ n
    go n true e = reply_number (book_view w) b ∙ sym (eqb-true n 0 e)
    go n false e = refl

no_book : (w : List ℤ) (b : List ℕ) → is_book w ≡ false → book_answer w b ≡ plain 1
unfolding book_answer
no_book w b e = rw e

number_is_lowest : (w : List ℤ) (b : List ℕ) → (book_answer w b).number ≡ lowest 1 (conditions w b)
unfolding conditions lowest
number_is_lowest w b = go (is_book w) refl
  where
    F : ℕ
    F = (book_view w).facilities

    S : ℕ
    S = (book_view w).services

    from_5 : ℕ
    from_5 = lowest 5 (conditions_from_5 (book_view w) b)

    go : (t : Bool) → is_book w ≡ t → (book_answer w b).number ≡ (draw (not t) 1 then (draw (not (is_record b)) 2 then (draw (outside b F S) 3 then (draw (has_stray b) 4 then from_5))))
    go true e =
        refused_on w b e
        ∙ unfold number in then_eq _ _ (judge (book_view w) b) from_5 refl (λ z. call_lowest (book_view w) b (named F S b z).which)
        ∙ regroup
        ∙ sym (skip 1 (draw (not (is_record b)) 2 then (draw (outside b F S) 3 then (draw (has_stray b) 4 then from_5))))
      where
        regroup : (record_number b F S then from_5) ≡ (draw (not (is_record b)) 2 then (draw (outside b F S) 3 then (draw (has_stray b) 4 then from_5)))
        regroup =
            unfold record_number in then_assoc (draw (not (is_record b)) 2) (draw (outside b F S) 3 then draw (has_stray b) 4) from_5
            ∙ ap (λ (n : ℕ). draw (not (is_record b)) 2 then n) (then_assoc (draw (outside b F S) 3) (draw (has_stray b) 4) from_5)
    go false e = unfold draw ◌then◌ plain in ap (λ (a : Answer). a.number) (no_book w b e)

-- ---- the lowest of some conditions

-- Where none is drawn, none applies.
none_applies : (n : ℕ) (l : List Bool) → 0 < n → lowest n l ≡ 0 → (i : ℕ) → get_or l i false ≡ false
unfolding lowest
none_applies n [] h e i = refl
none_applies n (t ∷ l) h e zero = draw_zero t n h (then_zero _ _ e).0
none_applies n (t ∷ l) h e (suc i) = none_applies (suc n) l (omega arith) (then_zero _ _ e).1 i

-- Where none applies, none is drawn.
none_drawn : (n : ℕ) (l : List Bool) → ((i : ℕ) → get_or l i false ≡ false) → lowest n l ≡ 0
unfolding lowest
none_drawn n [] h = refl
none_drawn n (t ∷ l) h = ap (λ (u : Bool). draw u n then lowest (suc n) l) (h 0) ∙ skip n (lowest (suc n) l) ∙ none_drawn (suc n) l (λ i. h (suc i))

drawn_here : (n m : ℕ) → 0 < n → (draw true n then m) ≡ n
unfolding draw ◌then◌
drawn_here n m h = rw (ne_eqb n 0 (λ z. omega arith))

at_least : (n : ℕ) (l : List Bool) → 0 < n → (lowest n l ≡ 0) ⊎ (n ≤ lowest n l)
unfolding lowest
at_least n [] h = inl refl
at_least n (true ∷ l) h = inr (omega (arith, drawn_here n (lowest (suc n) l) h))
at_least n (false ∷ l) h =
    let e = skip n (lowest (suc n) l) in
    ⊎_elim (λ z. inl (e ∙ z)) (λ (z : suc n ≤ lowest (suc n) l). inr (omega arith)) (at_least (suc n) l (omega arith))

-- What is drawn applies, and nothing below it does.
first_applies : (n : ℕ) (l : List Bool) (k : ℕ) → 0 < n → lowest n l ≡ n + k → (get_or l k false ≡ true) × ((i : ℕ) → i < k → get_or l i false ≡ false)
unfolding lowest
first_applies n [] k h e = absurd (omega arith)
first_applies n (true ∷ l) zero h e = (refl, λ i x. absurd (omega arith))
first_applies n (true ∷ l) (suc k) h e = absurd (omega (arith, drawn_here n (lowest (suc n) l) h))
first_applies n (false ∷ l) zero h e =
    let x = skip n (lowest (suc n) l) in
    absurd (⊎_elim (λ (z : lowest (suc n) l ≡ 0). omega arith) (λ (z : suc n ≤ lowest (suc n) l). omega arith) (at_least (suc n) l (omega arith)))
first_applies n (false ∷ l) (suc k) h e =
    let x = skip n (lowest (suc n) l) in
    let y = first_applies (suc n) l k (omega arith) (omega arith) in
    (y.0, λ i z. below i z y.1)
  where
    below : (i : ℕ) → i < suc k → ((i : ℕ) → i < k → get_or l i false ≡ false) → get_or (false ∷ l) i false ≡ false
    below zero z f = refl
    below (suc i) z f = f i (omega arith)

-- ---- the claims

pub refused_changes_nothing : RefusedChangesNothing
unfolding RefusedChangesNothing
refused_changes_nothing w b e = go (is_book w) refl
  where
    n : ℕ
    n = number (List ℤ) book_view book_accept w b

    go : (t : Bool) → is_book w ≡ t → (book_answer w b ≡ plain (book_answer w b).number) × (book_after w b ≡ w)
    go true x =
        let z : eqb n 0 ≡ false = ap (λ (k : ℕ). eqb k 0) (sym (refused_on w b x)) ∙ e in
        (refused_answer x z ∙ ap plain (sym (refused_on w b x)), refused_after x z)
      where
        refused_answer : is_book w ≡ true → eqb n 0 ≡ false → book_answer w b ≡ plain n
        refused_answer x z = unfold book_answer answer in rw (x, z)

        refused_after : is_book w ≡ true → eqb n 0 ≡ false → book_after w b ≡ w
        refused_after x z = unfold book_after after in rw (x, z)
    go false x = (no_book w b x ∙ ap plain (unfold plain in sym (ap (λ (a : Answer). a.number) (no_book w b x))), unfold book_after in rw x)

pub accepted_exactly : AcceptedExactly
unfolding AcceptedExactly
accepted_exactly w b = (
  λ e. none (none_applies 1 (conditions w b) (omega arith) (sym (number_is_lowest w b) ∙ eqb-true (book_answer w b).number 0 e)),
  λ f. eq-eqb (book_answer w b).number 0 (number_is_lowest w b ∙ none_drawn 1 (conditions w b) (drawn f)),
)
  where
    drawn : ((n : ℕ) → applies w b n ≡ false) → (i : ℕ) → get_or (conditions w b) i false ≡ false
    drawn f i = unfold applies in f (suc i)

    none : ((i : ℕ) → get_or (conditions w b) i false ≡ false) → (n : ℕ) → applies w b n ≡ false
    none f zero = unfold applies in refl
    none f (suc n) = unfold applies in f n

pub lowest_that_applies : LowestThatApplies
unfolding LowestThatApplies
lowest_that_applies w b e = go (book_answer w b).number refl
  where
    go : (n : ℕ) → (book_answer w b).number ≡ n → (applies w b n ≡ true) × ((i : ℕ) → i < n → applies w b i ≡ false)
    go zero z = absurd (eqb-false (book_answer w b).number 0 e z)
    go (suc n) z =
        let y = first_applies 1 (conditions w b) n (omega arith) (sym (number_is_lowest w b) ∙ z ∙ one_more n) in
        (at y.0, below y.1)
      where
        at : get_or (conditions w b) n false ≡ true → applies w b (suc n) ≡ true
        at x = unfold applies in x

        one_more : (n : ℕ) → suc n ≡ 1 + n
        one_more n = omega arith

        below : ((i : ℕ) → i < n → get_or (conditions w b) i false ≡ false) → (i : ℕ) → i < suc n → applies w b i ≡ false
        below f zero x = unfold applies in refl
        below f (suc i) x = unfold applies in f i (omega arith)

pub revised_at_next_period : RevisedAtNextPeriod
unfolding RevisedAtNextPeriod applies conditions conditions_from_5 of_held
revised_at_next_period w b call = (
  λ h p held next.
      let now = (book_view w).now in
      let gate_at : ℕ → Bool = λ q. own_gate (book_view w) b q (pairs h.offer) (pairs (offer_in b)) in
      rw (call, held) (or-false (gate_at (next_period now (to_nat (period_word b)))) ∙ ap gate_at (sym (next_is_one now (to_nat (period_word b)) p next))),
  λ held. rw (call, held),
)

pub offers_blanks_last : OffersBlanksLast
unfolding OffersBlanksLast applies conditions conditions_from_5 blank_refused
offers_blanks_last w b offer passes = none_before (pairs (offer_in b)) (or_right (any_pair is_priced_blank (pairs (offer_in b))) (blank_before_filled (pairs (offer_in b))) (rw offer at passes))

same_words : (l m : List ℤ) → equal_words l m ≡ true → l ≡ m
unfolding equal_words
same_words [] [] e = refl
same_words [] (y ∷ m) e = absurd (false≢true e)
same_words (x ∷ l) [] e = absurd (false≢true e)
same_words (x ∷ l) (y ∷ m) e = ap₂ ◌∷◌ (same_word x y (and_left (eq_z x y) (equal_words l m) e)) (same_words l m (and_right (eq_z x y) (equal_words l m) e))

pub never_equal_to_held : NeverEqualToHeld
unfolding NeverEqualToHeld applies conditions conditions_from_5 of_held blank_refused
never_equal_to_held w b h call held holed passes =
    let none_before = or_right (any_pair is_priced_blank (pairs (offer_in b))) (blank_before_filled (pairs (offer_in b))) (rw call at passes) in
    rw (call, held) (go (equal_words h.offer (offer_in b)) refl none_before)
  where
    go : (t : Bool) → equal_words h.offer (offer_in b) ≡ t → blank_before_filled (pairs (offer_in b)) ≡ false → t ≡ false
    go true e z = absurd (false≢true (sym z ∙ ap (λ (o : List ℤ). blank_before_filled (pairs o)) (sym (same_words h.offer (offer_in b) e)) ∙ holed))
    go false e z = refl
