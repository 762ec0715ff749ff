use Rattle.std.proofs.Common.{◌≡◌, ◌+◌, ◌*◌, ◌≤◌, nat_abs, drop}
use Rattle.offers.specs.PairTests.{found_from}
use Rattle.units.specs.Typed.{pairs_of}
use Rattle.offers.proofs.walk.walk.Given as goal

-- Pair by pair, what is left to be found stays the same.
abbrev pub invariant-loop-words : goal.invariant-loop-words
invariant-loop-words l =
    (l.f.filled ≡ l.fn.start.filled + l.words-index) × (nat_abs l.f.total.0 ≤ l.f.filled * 2147483648) × (found_from l.limits.lowest l.limits.highest l.f (pairs_of (drop l.words-index l.pairs)) ≡ found_from l.limits.lowest l.limits.highest l.fn.start (pairs_of l.pairs))
