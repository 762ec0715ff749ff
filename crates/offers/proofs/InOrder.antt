-- The rule's numbers in the order in which the code asks for them, and the greatest of them.
use Rattle.std.proofs.Common.{◌≡◌, refl, Bool, true, false, not, cond, ◌||◌, List, ℕ, ◌≤◌, ltb, eqb, ℤ, arith}
use Rattle.offer_rules.specs.Numbers.{draw, ◌then◌}
use Rattle.offer_rules.specs.Offer.{Pair, pairs, sum_of, any_pair, pair_out_of_range, out_of_range, blank_refused, non_blank_prices, rises, ramp_refused, proportion_refused, above_capacity, offer_number}
use Rattle.offers.specs.Typed.{limits_of}
use Rattle.units.specs.declared.Price.{Price}
use Rattle.offers.specs.PairTests.{pair_is_out, pairs_number}

-- 11 of the reason before that of the pairs, and 11 to 13 of these together
parted : (r a b d : Bool) (m : ℕ) → (draw (r || a) 11 then draw b 12 then draw d 13 then m) ≡ (draw r 11 then (draw a 11 then draw b 12 then draw d 13) then m)
unfolding draw ◌then◌
parted true a b d m = refl
parted false true b d m = refl
parted false false true d m = refl
parted false false false true m = refl
parted false false false false m = refl

pub in_order : (limits c : List ℤ) (s reason : ℕ) (o : List ℤ)
    → offer_number limits c s reason o
    ≡ (draw (ltb 6 reason) 11
    then pairs_number (limits_of limits s).lowest (limits_of limits s).highest (pairs o)
    then draw (ramp_refused c s o) 14
    then draw (proportion_refused c s o) 15
    then draw (above_capacity c s (sum_of (pairs o))) 16)
unfolding offer_number out_of_range pair_out_of_range pairs_number
in_order limits c s reason o =
    parted (ltb 6 reason) (any_pair (pair_out_of_range limits s) (pairs o)) (blank_refused (pairs o)) (not (rises (non_blank_prices (pairs o)))) _

-- and none above the last
pub pairs_most : (lowest highest : Price) (l : List Pair) → pairs_number lowest highest l ≤ 13
unfolding pairs_number draw ◌then◌
pairs_most lowest highest l =
    go (any_pair (pair_is_out lowest highest) l) (blank_refused l) (not (rises (non_blank_prices l)))
  where
    go : (a b d : Bool) → (draw a 11 then draw b 12 then draw d 13) ≤ 13
    go true b d = omega arith
    go false true d = omega arith
    go false false true = omega arith
    go false false false = omega arith

draw_at_most : (t : Bool) (n : ℕ) → n ≤ 16 → draw t n ≤ 16
unfolding draw
draw_at_most true n h = h
draw_at_most false n h = omega arith

then_at_most : (n m : ℕ) → n ≤ 16 → m ≤ 16 → (n then m) ≤ 16
unfolding ◌then◌
then_at_most n m h k = go (eqb n 0)
  where
    go : (t : Bool) → cond t m n ≤ 16
    go true = k
    go false = h

-- of any lists
pub number_at_most : (limits c : List ℤ) (s reason : ℕ) (o : List ℤ) → offer_number limits c s reason o ≤ 16
unfolding offer_number
number_at_most limits c s reason o =
    then_at_most _ _ (draw_at_most _ 11 (omega arith))
    (then_at_most _ _ (draw_at_most _ 12 (omega arith))
    (then_at_most _ _ (draw_at_most _ 13 (omega arith))
    (then_at_most _ _ (draw_at_most _ 14 (omega arith)) (then_at_most _ _ (draw_at_most _ 15 (omega arith)) (draw_at_most _ 16 (omega arith))))))
