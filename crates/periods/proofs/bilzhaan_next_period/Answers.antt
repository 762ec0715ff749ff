use Rattle.std.proofs.Common.{arith}
use Rattle.offer_rules.proofs.Periods.{starts_next, settled}
use Rattle.periods.proofs.bilzhaan_next_period.Goals as goal

-- of the slot, not begun, the least, each from the remainders
pub returns : goal.returns
returns c = settled _ _ _ (starts_next _ _ _ (omega arith) (omega arith) (λ q e a. omega arith))
