use Rattle.std.proofs.Common.{◌≡◌, ◌+◌, ◌*◌, ◌≤◌, ◌<◌, length}
use Rattle.gate.specs.Differing.{first_differing}
use Rattle.units.specs.Typed.{pairs_of}
use Rattle.gate.proofs.Steps.{first_from}
use Rattle.gate.proofs.Walk.first_differing_tenth.Given as goal

-- The answer that the merge comes to is the same at each step.
abbrev pub invariant-loop-old : goal.invariant-loop-old
invariant-loop-old l =
    (l.old_used < 2147483648) × (l.new_used < 2147483648) × (l.passed + (length l.old + length l.new) * 2147483648 ≤ 42949672960)
    × (first_from (pairs_of l.old) l.old_used (pairs_of l.new) l.new_used l.passed ≡ first_differing (pairs_of l.self.pairs.now) (pairs_of l.new-2.pairs.now))

-- Each step passes one pair.
abbrev pub decreases-loop-old : goal.decreases-loop-old
decreases-loop-old l = length l.old + length l.new
