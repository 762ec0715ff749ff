use Rattle.std.proofs.Common.{◌∙◌, ◌||◌, false, rules, tests}
use Rattle.std.proofs.lemmas.Iterator.{YieldsList-from_slice}
use Rattle.std.proofs.lemmas.Iterator.Consumers.{fold_from_yields_List}
use Rattle.offer_rules.specs.Numbers.{beyond}
use Rattle.units.proofs.WordByWord.{any_as_fold}
use Rattle.units.proofs.any_beyond.Goals as goal

pub returns : goal.returns
returns c =
    let a = c.args in
    fold_from_yields_List _ (λ any x. any || beyond a.lo a.hi x) false _ c.fold.ensures.ran (YieldsList-from_slice a.words.now cc) (λ any x next q called. (search rules, search (rules, tests)))
    ∙ any_as_fold a.lo a.hi a.words.now
