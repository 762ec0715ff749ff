use Rattle.std.proofs.Common.{◌≡◌, not, eqb, take}
use Rattle.std.specs.List.{list_any}
use Rattle.record.proofs.any_set.Given as goal

-- as far as the loop has come
abbrev pub invariant-loop-byte : goal.invariant-loop-byte
invariant-loop-byte l = l.any ≡ list_any (λ byte. not (eqb byte 0)) (take l.byte-index l.gap)
