-- Two offers compared word by word.
use Rattle.std.proofs.Common.{◌≡◌, ◌∙◌, sym, List, [], ◌∷◌, Bool, true, ◌&&◌, length, ℤ, fold, zip, arith}
use Rattle.std.proofs.Math.Bool.{and-true, and_assoc}
use Rattle.offer_rules.specs.Numbers.{eq_z}
use Rattle.book_rules.specs.Refusals.{equal_words}

-- The test so far, joined to that of the words left, is the test of all.
so_far : (same : Bool) (x y : List ℤ) → length x ≡ length y → fold (λ same p. same && eq_z p.0 p.1) same (zip x y) ≡ (same && equal_words x y)
unfolding equal_words
so_far same [] [] h = sym (and-true same)
so_far same [] (b ∷ y) h = absurd (omega arith)
so_far same (a ∷ x) [] h = absurd (omega arith)
so_far same (a ∷ x) (b ∷ y) h = so_far (same && eq_z a b) x y (omega arith) ∙ and_assoc same (eq_z a b) (equal_words x y)

pub same_as_fold : (x y : List ℤ) → length x ≡ length y → fold (λ same p. same && eq_z p.0 p.1) true (zip x y) ≡ equal_words x y
same_as_fold x y h = so_far true x y h
