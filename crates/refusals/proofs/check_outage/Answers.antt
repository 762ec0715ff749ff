use Rattle.std.proofs.Common.{rules, ◌∙◌, sym}
use Rattle.book_rules.specs.Refusals.{outage_number}
use Rattle.refusals.proofs.OutagePassed.{outage_passed}
use Rattle.refusals.proofs.check_outage.Goals as goal

pub returns-clause-number : goal.returns-clause-number
unfolding outage_number
returns-clause-number c = search rules

pub returns-clause-passed : goal.returns-clause-passed
returns-clause-passed c e = (outage_passed c.args.clock.number c.args.capability.now c.args.minute c.args.count (sym (returns-clause-number c) ∙ e)).1
