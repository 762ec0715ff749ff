-- A held minute shows in a look-up's word 0 alone: what is in force is the same offer without it, and the rules read that.
use mathlib.Core.Path.{◌≡◌, refl, ap, ap₂}
use mathlib.Core.Bool.{Bool, true, false, cond}
use mathlib.Core.List.{List}
use mathlib.Core.Option.{Option, none, some}
use Prim.Native.Nat.{ℕ, zero, suc, ◌+◌}
use lib.Dec.{eqb}
use lib.IntN.{ℤ, ◌+ℤ◌}
use lib.ListN.{drop}
use Rattle.offer_rules.specs.Numbers.{to_nat}
use Rattle.offer_rules.specs.Time.{slot_of}
use Rattle.offer_rules.specs.Offer.{Pair, Held, sum_of}
use Rattle.offer_rules.specs.Gate.{Grounds}
use Rattle.book_rules.specs.Record.{call_of, facility_of, service_of, period_word}
use Rattle.book_rules.specs.Force.{View, first_of, in_force, will_stand, pairs_of, counted, count_in_force, sum_in_force, Answer, plain, shown_at, found_words, found, totalled}
use Rattle.book_rules.specs.Refusals.{revision_number, force_number, grounds, admitted_standing, admitted_variation, standing_number, variation_number, look_up_number, judge, look_up_reply, total_reply, reply}
use Rattle.book_rules.specs.Claims.{minute_less, ageless, MinutesShowInWord0}

-- ---- what is in force

pairs_first : (v s : Option Held) → pairs_of (first_of (minute_less v) (minute_less s)) ≡ pairs_of (first_of v s)
unfolding minute_less first_of pairs_of
pairs_first (some h) s = refl
pairs_first none (some h) = refl
pairs_first none none = refl

pairs_afterwards : (v s : Option Held) → pairs_of (first_of v (minute_less s)) ≡ pairs_of (first_of v s)
unfolding minute_less first_of pairs_of
pairs_afterwards (some h) s = refl
pairs_afterwards none (some h) = refl
pairs_afterwards none none = refl

counted_first : (v s : Option Held) → counted (first_of (minute_less v) (minute_less s)) ≡ counted (first_of v s)
unfolding minute_less first_of counted
counted_first (some h) s = refl
counted_first none (some h) = refl
counted_first none none = refl

words_first : (now : ℕ) (v s : Option Held) → drop 1 (found_words now (first_of (minute_less v) (minute_less s))) ≡ drop 1 (found_words now (first_of v s))
unfolding minute_less first_of found_words shown_at
words_first now (some h) s = refl
words_first now none (some h) = refl
words_first now none none = refl

revision_less : (now : ℕ) (g : Grounds) (s k reason : ℕ) (x : Option Held) (o : List ℤ) → revision_number now g s k reason (minute_less x) o ≡ revision_number now g s k reason x o
unfolding minute_less revision_number
revision_less now g s k reason none o = refl
revision_less now g s k reason (some h) o = refl

module _ (vw : View) where
  -- ---- numbers

  standing_less : (f s : ℕ) (k : ℤ) (reason : ℕ) (o : List ℤ) → standing_number (ageless vw) f s k reason o ≡ standing_number vw f s k reason o
  unfolding standing_number admitted_standing grounds
  standing_less f s k reason o = rw revision_less

  variation_less : (f s : ℕ) (p : ℤ) (reason : ℕ) (o : List ℤ) → variation_number (ageless vw) f s p reason o ≡ variation_number vw f s p reason o
  unfolding variation_number admitted_variation in_force will_stand grounds
  variation_less f s p reason o = rw (pairs_first, pairs_afterwards)

  look_up_less : (f s : ℕ) (p : ℤ) → look_up_number (ageless vw) f s p ≡ look_up_number vw f s p
  unfolding look_up_number force_number in_force
  look_up_less f s p = rw counted_first

  judge_less : (b : List ℕ) → judge (ageless vw) b ≡ judge vw b
  unfolding judge
  judge_less b = rw (standing_less, variation_less, look_up_less)

  -- ---- answers

  count_less : (s p n : ℕ) → count_in_force (ageless vw) s p n ≡ count_in_force vw s p n
  unfolding count_in_force in_force
  count_less s p zero = refl
  count_less s p (suc n) = ap₂ ◌+◌ (count_less s p n) (counted_first (vw.variation n s p) (vw.standing n s (slot_of p)))

  sum_less : (s p n : ℕ) → sum_in_force (ageless vw) s p n ≡ sum_in_force vw s p n
  unfolding sum_in_force in_force
  sum_less s p zero = refl
  sum_less s p (suc n) = ap₂ (λ (z : ℤ) (l : List Pair). z +ℤ sum_of l) (sum_less s p n) (pairs_first (vw.variation n s p) (vw.standing n s (slot_of p)))

  total_less : (s p : ℕ) → total_reply (ageless vw) s p ≡ total_reply vw s p
  unfolding total_reply
  total_less s p = ap₂ totalled (count_less s p vw.facilities) (sum_less s p vw.facilities)

  look_up_sum : (f s p : ℕ) → (look_up_reply (ageless vw) f s p).sum ≡ (look_up_reply vw f s p).sum
  unfolding look_up_reply found in_force
  look_up_sum f s p = ap sum_of (pairs_first (vw.variation f s p) (vw.standing f s (slot_of p)))

  look_up_words : (f s p : ℕ) → drop 1 (look_up_reply (ageless vw) f s p).words ≡ drop 1 (look_up_reply vw f s p).words
  unfolding look_up_reply found in_force
  look_up_words f s p = words_first vw.now (vw.variation f s p) (vw.standing f s (slot_of p))

  module _ (b : List ℕ) where
    rest_less : (t : Bool) → cond t (total_reply (ageless vw) (service_of b) (to_nat (period_word b))) (plain 0) ≡ cond t (total_reply vw (service_of b) (to_nat (period_word b))) (plain 0)
    rest_less true = total_less (service_of b) (to_nat (period_word b))
    rest_less false = refl

    -- What an answer has in common, taken of it.
    taken : {A : Type 0} (take : Answer → A)
        → take (look_up_reply (ageless vw) (facility_of b) (service_of b) (to_nat (period_word b))) ≡ take (look_up_reply vw (facility_of b) (service_of b) (to_nat (period_word b)))
        → take (reply (ageless vw) b) ≡ take (reply vw b)
    unfolding reply
    taken take e = go (eqb (call_of b) 8)
      where
        rest : View → Answer
        rest x = cond (eqb (call_of b) 9) (total_reply x (service_of b) (to_nat (period_word b))) (plain 0)

        go : (t : Bool) → take (cond t (look_up_reply (ageless vw) (facility_of b) (service_of b) (to_nat (period_word b))) (rest (ageless vw)))
            ≡ take (cond t (look_up_reply vw (facility_of b) (service_of b) (to_nat (period_word b))) (rest vw))
        go true = e
        go false = ap take (rest_less (eqb (call_of b) 9))

    other_reply : eqb (call_of b) 8 ≡ false → reply (ageless vw) b ≡ reply vw b
    unfolding reply
    other_reply e = rw e (rest_less (eqb (call_of b) 9))

pub minutes_show_in_word_0 : MinutesShowInWord0
unfolding MinutesShowInWord0
minutes_show_in_word_0 vw b =
    let f = facility_of b in
    let s = service_of b in
    let p = to_nat (period_word b) in
    (judge_less vw b, taken vw b (λ a. a.sum) (look_up_sum vw f s p), taken vw b (λ a. drop 1 a.words) (look_up_words vw f s p), other_reply vw b)
