-- A total is of look-ups, facility by facility.
use mathlib.Core.Path.{◌≡◌, refl, ap, ap₂}
use mathlib.Core.Bool.{cond}
use mathlib.Core.List.{◌∷◌}
use Prim.Native.Nat.{ℕ, zero, suc, ◌+◌}
use lib.Dec.{eqb}
use lib.IntN.{ℤ, pos, ◌+ℤ◌}
use Rattle.offer_rules.specs.Numbers.{draw, zeros}
use Rattle.book_rules.specs.Force.{View, InForce, no_offer, standing_offer, offer_variation, in_force, counted, count_in_force, sum_in_force, found, totalled}
use Rattle.book_rules.specs.Refusals.{force_number, look_up_reply, total_reply}
use Rattle.book_rules.specs.Claims.{how_many, added_over, TotalOfLookUps}

-- 19 is drawn of what isn't counted.
by_19 : (x : InForce) → counted x ≡ cond (eqb (force_number x) 0) 1 0
unfolding counted force_number draw
by_19 no_offer = refl
by_19 (standing_offer h) = refl
by_19 (offer_variation h) = refl

module _ (vw : View) (s p : ℕ) where
  counts : (n : ℕ) → count_in_force vw s p n ≡ how_many n (λ f. eqb (force_number (in_force vw f s p)) 0)
  unfolding count_in_force how_many
  counts zero = refl
  counts (suc n) = ap₂ ◌+◌ (counts n) (by_19 (in_force vw n s p))

  sums : (n : ℕ) → sum_in_force vw s p n ≡ added_over n (λ f. (look_up_reply vw f s p).sum)
  unfolding sum_in_force added_over look_up_reply found
  sums zero = refl
  sums (suc n) = ap (λ (z : ℤ). z +ℤ (look_up_reply vw n s p).sum) (sums n)

pub total_of_look_ups : TotalOfLookUps
unfolding TotalOfLookUps total_reply totalled
total_of_look_ups vw s p = (refl, ap (λ (n : ℕ). pos n ∷ zeros 23) (counts vw s p vw.facilities), sums vw s p vw.facilities)
