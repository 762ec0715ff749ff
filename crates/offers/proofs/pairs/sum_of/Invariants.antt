use Rattle.std.proofs.Common.{◌≡◌, ◌*◌, ◌≤◌, nat_abs, ◌+ℤ◌, drop}
use Rattle.offer_rules.specs.Offer.{sum_of}
use Rattle.units.specs.Typed.{pairs_of}
use Rattle.offers.proofs.pairs.sum_of.Given as goal

-- The total so far, and what is left to be added to it.
abbrev pub invariant-loop-words : goal.invariant-loop-words
invariant-loop-words l =
    (nat_abs l.total.0 ≤ l.words-index * 2147483648) × (l.total.0 +ℤ sum_of (pairs_of (drop l.words-index l.words-items)) ≡ sum_of (pairs_of l.words-items))
