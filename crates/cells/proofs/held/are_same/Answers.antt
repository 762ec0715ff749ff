use Rattle.std.proofs.Common.{◌∙◌, true, ◌&&◌, arith, rules, tests}
use Rattle.std.proofs.lemmas.Iterator.{YieldsList-from_slice, YieldsList-from_zip}
use Rattle.std.proofs.lemmas.Iterator.Consumers.{fold_from_yields_List}
use Rattle.offer_rules.specs.Numbers.{eq_z}
use Rattle.cells.proofs.WordByWord.{same_as_fold}
use Rattle.cells.proofs.held.are_same.Goals as goal

pub returns : goal.returns
returns c =
    let x = c.args.held.now in
    let y = c.args.offer.now in
    fold_from_yields_List _ (λ same p. same && eq_z p.0 p.1) true _ c.fold.ensures.ran (YieldsList-from_zip (YieldsList-from_slice x cc) (YieldsList-from_slice y cc)) (λ same p next q called. (search rules, search (rules, tests)))
    ∙ same_as_fold x y (omega arith)
