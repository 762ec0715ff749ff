-- The tenths of pairs added, one pair after another.
use Rattle.std.proofs.Common.{◌≡◌, ℕ, ◌+◌, ◌*◌, List, [], ◌∷◌, refl, ◌∙◌, arith, fold, length, sum_by}
use Rattle.std.proofs.lemmas.List.Sums.{sum_by-cons}
use Rattle.std.specs.Prelude.{ℤ}
use Rattle.offer_rules.specs.Gate.{tenths_of, total_tenths}
use Rattle.units.specs.Typed.{typed, pair_of, pairs_of}

added_from : (n : ℕ) (l : List (List ℤ)) → fold (λ total words. total + tenths_of (pair_of (typed words))) n l ≡ n + total_tenths (pairs_of l)
unfolding total_tenths
added_from n [] = omega arith
added_from n (x ∷ l) = added_from (n + tenths_of (pair_of (typed x))) l ∙ omega arith

pub added : (l : List (List ℤ)) → fold (λ total words. total + tenths_of (pair_of (typed words))) 0 l ≡ total_tenths (pairs_of l)
added l = added_from 0 l ∙ omega arith

pub most_of : (l : List (List ℤ)) → sum_by (λ words. 2147483648) l ≡ length l * 2147483648
most_of [] = refl
most_of (x ∷ l) = let e = most_of l in sum_by-cons (λ words. 2147483648) x l ∙ omega (arith, e)
