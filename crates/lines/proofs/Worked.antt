-- The lines of specs/Worked: a short one by computing, the longest from the digits of their numbers.
use mathlib.Core.Path.{◌≡◌, refl}
use lib.Dec.{lit<, lit≤}
use lib.ListN.{length, length-append}
use Rattle.lines.specs.Text.{count_from, digit_count, decimal, signed_decimal, spaced, text}
use Rattle.lines.specs.Worked.{LookUpLine, LongestLine, LongestWhole}
use Rattle.lines.proofs.DigitCount.{length_is}

pub look_up_line : LookUpLine
unfolding LookUpLine text spaced signed_decimal decimal digit_count count_from
look_up_line = refl

number_digits : length (decimal 4294967295) ≡ 10
number_digits = length_is 4294967295 10 (lit≤ tt, lit< tt, λ _. lit≤ tt)

word_digits : length (decimal 2147483648) ≡ 10
word_digits = length_is 2147483648 10 (lit≤ tt, lit< tt, λ _. lit≤ tt)

sum_digits : length (decimal 9223372036854775808) ≡ 19
sum_digits = length_is 9223372036854775808 19 (lit≤ tt, lit< tt, λ _. lit≤ tt)

pub longest_line : LongestLine
unfolding LongestLine text spaced signed_decimal
longest_line = simp (length-append, number_digits, word_digits, sum_digits)

pub longest_whole : LongestWhole
unfolding LongestWhole text spaced signed_decimal
longest_whole = simp (length-append, number_digits, word_digits, sum_digits)
