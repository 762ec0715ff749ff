use Rattle.std.proofs.Common.{rules}
use Rattle.book_rules.specs.Refusals.{notice_number}
use Rattle.refusals.proofs.check_notice.Goals as goal

pub returns-clause-number : goal.returns-clause-number
unfolding notice_number
returns-clause-number c = search rules
