use Rattle.std.proofs.Common.{rules}
use Rattle.book_rules.specs.Words.{cell_held}
use Rattle.book_rules.specs.Force.{found}
use Rattle.cells.proofs.Showing.{words_shown, sum_shown}
use Rattle.cells.proofs.in_force.InForce.look_up.Goals as goal

pub returns : goal.returns
unfolding found cell_held
returns c = rw (words_shown c.args.self.now c.args.clock.number, sum_shown c.args.self.now) (search rules)
