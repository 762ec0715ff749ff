use Rattle.std.proofs.Common.{◌≡◌, ◌∙◌, ◌++◌, ◌∷◌, [], ap₂, rules, arith, pos, w64, to_z, of_z, slice_set, ℤ, List}
use lib.Seq.{set_at}
use Rattle.listed.specs.ListAnswered.{numbers_of}
use Rattle.listed.proofs.numbers.Goals as goal

-- The number, the words and the sum, each in its place.
pub returns : goal.returns
unfolding numbers_of
returns c =
    let a = c.args.answer in
    let number : to_z w64 (of_z w64 c.from.result) ≡ pos a.number = search rules ∙ c.from.ensures in
    let words = c.copy_from_slice.ensures.after ∙ c.widened.ensures in
    let sum : to_z w64 (of_z w64 a.sum) ≡ a.sum = search rules in
    ap₂ (λ (n : ℤ) (l : List ℤ). n ∷ l) number
    (ap₂ (λ (l : List ℤ) (z : ℤ). slice_set (l ++ (pos 0 ∷ [])) 24 z) words sum ∙ set_at a.words (pos 0) [] a.sum 24 (omega arith))
