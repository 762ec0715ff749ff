use Rattle.std.proofs.Common.{rules, pos}
use Rattle.units.proofs.OneByOne.{made}
use Rattle.listed.proofs.widened.Goals as goal

pub returns : goal.returns
returns c = made _ _ c.args.words.now (pos 0) (λ k y q h call. search rules) c.from_fn.result _ (search rules) c.from_fn.ensures.items
