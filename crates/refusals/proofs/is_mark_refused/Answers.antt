use Rattle.std.proofs.Common.{arith}
use Rattle.book_rules.specs.Refusals.{marks_refused}
use Rattle.units.proofs.WordByWord.{beyond_in_part}
use Rattle.refusals.proofs.is_mark_refused.Goals as goal

pub returns : goal.returns
unfolding marks_refused
returns c =
    rw (c.any_beyond.ensures, beyond_in_part _ _ c.args.sent.now 12 5 (omega arith), c.any_mark_astray.ensures)
