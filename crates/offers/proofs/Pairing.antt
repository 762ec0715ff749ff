-- An offer's words as pairs, and quantities added pair by pair.
use Rattle.std.proofs.Common.{◌≡◌, false, sym, ap, ◌∙◌, List, [], ◌∷◌, ℕ, ◌+◌, ◌<◌, ◌≤◌, length, get_or, drop, drop-cons, ℤ, ◌+ℤ◌, add-one}
use Rattle.std.proofs.Math.ListN.{drop_of_length-le}
use lib.IntN.{+ℤ_assoc, +ℤ_idr}
use Rattle.offer_rules.specs.Offer as rule
use Rattle.offer_rules.specs.Offer.{is_blank, all_blank, blank_before_filled, sum_of}
use Rattle.offer_rules.proofs.Blanks.{none_before, first_tells}
use Rattle.units.specs.Typed.{typed, pair_of, pairs_of}
use Rattle.units.specs.declared.Pair.{Pair}

-- pair i and those after it
pub pair_next : (ws : List (List ℤ)) (i : ℕ) → i < length ws → pairs_of (drop i ws) ≡ pair_of (typed (get_or ws i [])) ∷ pairs_of (drop (i + 1) ws)
pair_next ws i h = ap pairs_of (drop-cons ws i [] h) ∙ rw add-one

-- a quantity goes over from the pairs left to the sum
pub sum_moves : (s r : ℤ) (ws : List (List ℤ)) (i : ℕ) (x : Pair) → i < length ws → x ≡ typed (get_or ws i []) → r ≡ s +ℤ x.quantity.0
    → r +ℤ sum_of (pairs_of (drop (i + 1) ws)) ≡ s +ℤ sum_of (pairs_of (drop i ws))
unfolding sum_of
sum_moves s r ws i x h e f =
    rw (f, e, pair_next ws i h) (+ℤ_assoc s (typed (get_or ws i [])).quantity.0 (sum_of (pairs_of (drop (i + 1) ws))))

pub sum_whole : (s : ℤ) (ws : List (List ℤ)) (i : ℕ) → length ws ≤ i → s +ℤ sum_of (pairs_of (drop i ws)) ≡ s
unfolding sum_of
sum_whole s ws i h = rw (drop_of_length-le ws h) (+ℤ_idr s)

-- an offer's pairs are all blank where its first one is
pub told_by_first : (ws : List (List ℤ)) (l : List rule.Pair) → pairs_of ws ≡ l → 0 < length ws → blank_before_filled l ≡ false → is_blank (pair_of (typed (get_or ws 0 []))) ≡ all_blank l
told_by_first ws l e h last =
    let next : l ≡ pair_of (typed (get_or ws 0 [])) ∷ pairs_of (drop 1 ws) = sym e ∙ pair_next ws 0 h in
    sym (ap all_blank next ∙ first_tells (pair_of (typed (get_or ws 0 []))) (pairs_of (drop 1 ws)) (none_before (pair_of (typed (get_or ws 0 [])) ∷ pairs_of (drop 1 ws)) (rw next at last)))
