-- The words of a part of the book.
use mathlib.Core.Path.{◌≡◌, ◌∙◌, ap}
use mathlib.Core.List.{List}
use Prim.Native.Nat.{ℕ, ◌+◌, ◌<◌}
use native.Mathlib.Omega.{arith}
use lib.IntN.{ℤ}
use Rattle.offer_rules.specs.Numbers.{word}
use Rattle.book_rules.specs.Words.{part}
use Rattle.book_rules.specs.Book.{window_in}
use Rattle.book_rules.proofs.Parts.{word_of_part}

-- The first word of a part.
pub first_of_part : (a n : ℕ) (w : List ℤ) → 0 < n → word (part a n w) 0 ≡ word w a
first_of_part a n w h = let e : a + 0 ≡ a = omega arith in word_of_part a n 0 w h ∙ ap (word w) e

-- A window's two words.
pub window_words : (a : ℕ) (w : List ℤ) → window_in (part a 2 w) ≡ record { first = word w a; last = word w (a + 1) }
unfolding window_in
window_words a w = λ i. record { first = first_of_part a 2 w (omega arith) i; last = word_of_part a 2 1 w (omega arith) i }
