use Rattle.std.proofs.Common.{rules}
use Rattle.gate.proofs.Blanks.{filled_until}
use Rattle.gate.proofs.filled_count.Goals as goal

pub returns-clause-filled : goal.returns-clause-filled
returns-clause-filled c = filled_until c.args.pairs.now c.unwrap_or.result (search rules) (search rules) (search rules)
