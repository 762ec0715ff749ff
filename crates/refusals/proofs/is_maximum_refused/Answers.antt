use Rattle.std.proofs.Common.{arith}
use Rattle.book_rules.specs.Refusals.{maxima_refused}
use Rattle.units.proofs.WordByWord.{beyond_in_part}
use Rattle.refusals.proofs.is_maximum_refused.Goals as goal

pub returns : goal.returns
unfolding maxima_refused
returns c =
    let w = c.args.sent.now in
    rw (
      c.any_beyond-maximum.ensures,
      beyond_in_part _ _ w 1 6 (omega arith),
      c.any_beyond-ramp.ensures,
      beyond_in_part _ _ w 7 2 (omega arith),
      c.any_beyond-proportion.ensures,
      beyond_in_part _ _ w 9 3 (omega arith),
    )
