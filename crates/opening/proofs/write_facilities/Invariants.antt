use Rattle.std.proofs.Common.{◌≡◌, ◌*◌, ◌++◌, length, drop}
use Rattle.book_rules.specs.Words.{empty_facilities}
use Rattle.opening.proofs.write_facilities.Given as goal

-- after f turns the first f facilities are empty and the rest is as it was
abbrev pub invariant-loop-f : goal.invariant-loop-f
invariant-loop-f l =
    (length l.initial.words ≡ 32 * l.f-end)
    × (l.words ≡ empty_facilities l.f ++ drop (32 * l.f) l.initial.words)
