use Rattle.std.proofs.Common.{◌∙◌, refl, [], ◌∷◌, rules}
use Rattle.book_rules.specs.Words.{cell}
use Rattle.units.proofs.Copying.{first_and_rest}
use Rattle.cells.proofs.stores.write_cell.Goals as goal

pub returns : goal.returns
unfolding cell
returns c = first_and_rest c.args.words.now (_ ∷ (_ ∷ (_ ∷ (_ ∷ [])))) _ 4 20 refl (search rules) ∙ search rules
