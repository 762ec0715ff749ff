-- The text of numbers, one after another.
use mathlib.Core.Path.{◌≡◌, ap}
use mathlib.Core.List.{List, [], ◌∷◌, ◌++◌, append_assoc, append-nil}
use Prim.Native.Nat.{ℕ, ◌+◌, ◌^◌, ◌≤◌, ◌<◌}
use native.Mathlib.Numerals.{add-one}
use lib.IntN.{ℤ, pos}
use lib.Signed.{mag}
use lib.ListN.{length, take}
use lib.Seq.{take-suc}
use Rattle.std.specs.Fmt as std
use Rattle.std.proofs.lemmas.List.{take_all}
use Rattle.offer_rules.specs.Numbers.{word}
use Rattle.lines.specs.Text.{line_feed, space, decimal, signed_decimal, spaced, text}
use Rattle.lines.proofs.Digits.{decimal_printed, signed_printed}

one_more : (xs : List ℤ) (x : ℤ) → spaced (xs ++ (x ∷ [])) ≡ spaced xs ++ (space ∷ signed_decimal x)
unfolding spaced
one_more [] x = ap (λ (t : List ℕ). space ∷ t) (append-nil (signed_decimal x))
one_more (y ∷ ys) x = rw (one_more ys x, append_assoc)

pub number_first : (b : List ℕ) (n : ℕ) → b ≡ [] → n < 2 ^ 64 → b ++ std.decimal n ≡ decimal n ++ spaced []
unfolding spaced
number_first b n e small = rw (e, decimal_printed n small, append-nil (decimal n))

-- A word printed after those before it.
pub one_word_more : (d : List ℕ) (words : List ℤ) (i : ℕ) (x : ℤ) → i < length words → x ≡ word words i → mag x < 2 ^ 63
    → (d ++ spaced (take i words)) ++ (space ∷ std.signed_decimal x) ≡ d ++ spaced (take (i + 1) words)
one_word_more d words i x h e small =
    rw (signed_printed x small, e, add-one, take-suc words i (pos 0), one_more (take i words) (word words i)) (simp append_assoc)

-- The sum after all words, and the line feed.
pub sum_last : (number : ℕ) (words : List ℤ) (sum x : ℤ) (t : List ℕ) (i : ℕ) → t ≡ decimal number ++ spaced (take i words) → length words ≤ i
    → x ≡ sum → mag x < 2 ^ 63 → (t ++ (space ∷ std.signed_decimal x)) ++ (line_feed ∷ []) ≡ text number words sum
unfolding text
sum_last number words sum x t i e all same small =
    rw (e, take_all i words all, signed_printed x small, same, one_more words sum) (simp append_assoc)
