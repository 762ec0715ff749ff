use Rattle.std.proofs.Common.{◌+◌, ◌∙◌, rules}
use Rattle.std.proofs.lemmas.Iterator.{YieldsList-from_slice}
use Rattle.std.proofs.lemmas.Iterator.Adapters.{serves_from_total}
use Rattle.std.proofs.lemmas.Iterator.Consumers.{fold_from_yields_List}
use Rattle.offer_rules.specs.Gate.{tenths_of}
use Rattle.units.specs.Typed.{typed, pair_of}
use Rattle.gate.proofs.Totals.{added, most_of}
use Rattle.gate.proofs.Walk.total_tenths.Goals as goal

-- Each pair raises the total by less than 2³¹.
pub fold-requires-clause-callable : goal.fold-requires-clause-callable
fold-requires-clause-callable c =
    let l = c.args.self.pairs.now in
    let e = most_of l in
    serves_from_total (YieldsList-from_slice l cc) (λ words. 2147483648) (λ n x q called. (search rules, search rules)) (λ n x h. search rules)

pub returns : goal.returns
returns c =
    let l = c.args.self.pairs.now in
    fold_from_yields_List _ (λ total words. total + tenths_of (pair_of (typed words))) 0 _ c.fold.ensures.ran (YieldsList-from_slice l cc) (λ total x next q called. (search rules, search rules))
    ∙ added l
