-- How many digits a number has: the count in specs/Text is the fewest that hold it, and no other count is.
use mathlib.Core.Path.{◌≡◌, refl}
use mathlib.Core.Bool.{Bool, true, false, cond}
use Prim.Native.Nat.{ℕ, zero, suc, ◌+◌, ◌-◌, ◌/◌, ◌^◌, ◌≤◌, ◌<◌}
use native.Mathlib.Nat.{pow-suc, pow-le-pow_right}
use native.Mathlib.Omega.{arith}
use native.Mathlib.Decide.{dec_le}
use lib.Dec.{ltb}
use lib.ListN.{length, length-append}
use borrow.Author.Tests.{ltb-true, ltb-false}
use Rattle.io.specs.Digits.{last_digits, IsDigitCount}
use Rattle.lines.specs.Text.{count_from, digit_count, CountIsFewest, decimal}

counted : (tries k n : ℕ) → 1 ≤ k → (1 < k → 10 ^ (k - 1) ≤ n) → n < 10 ^ (k + tries) → IsDigitCount 10 1 n (count_from tries k n)
unfolding count_from
counted zero k n one below above = let none : k + 0 ≡ k = omega arith in (one, rw none at above, below)
counted (suc tries) k n one below above =
    let m : suc k + tries ≡ k + suc tries = omega arith in
    let less : suc k - 1 ≡ k = omega arith in
    by (ltb n (10 ^ k)) refl (λ full. counted tries (suc k) n (omega arith) (λ _. rw less full) (rw m above))
  where
    by : (t : Bool) → ltb n (10 ^ k) ≡ t → (10 ^ k ≤ n → IsDigitCount 10 1 n (count_from tries (suc k) n))
        → IsDigitCount 10 1 n (cond t k (count_from tries (suc k) n))
    by true e more = (one, ltb-true n (10 ^ k) e, below)
    by false e more = more (ltb-false n (10 ^ k) e)

below_power : (n : ℕ) → n < 10 ^ n
below_power zero = omega arith
below_power (suc n) = rw pow-suc (omega (arith, below_power n))

pub count_is_fewest : CountIsFewest
unfolding CountIsFewest digit_count
count_is_fewest n =
    let rises = pow-le-pow_right {n = 10} (omega arith) {i = n} {j = 1 + n} (omega arith) in
    counted n 1 n (omega arith) (λ h. omega arith) (omega (arith, below_power n, rises))

-- A count that holds n is no less than the fewest.
no_more_than : (n j k : ℕ) → 1 ≤ j → n < 10 ^ j → IsDigitCount 10 1 n k → k ≤ j
no_more_than n j k one holds fewest = by (dec_le k j)
  where
    by : Dec (k ≤ j) → k ≤ j
    by (yes h) = h
    by (no h) =
        let l : j < k = omega arith in
        let fills : 10 ^ (k - 1) ≤ n = fewest.2 (omega arith) in
        let rises : 10 ^ j ≤ 10 ^ (k - 1) = pow-le-pow_right {n = 10} (omega arith) {i = j} {j = k - 1} (omega arith) in
        absurd (omega arith)

pub only_fewest : (n j k : ℕ) → IsDigitCount 10 1 n j → IsDigitCount 10 1 n k → j ≡ k
only_fewest n j k f g = omega (arith, no_more_than n j k f.0 f.1 g, no_more_than n k j g.0 g.1 f)

length_digits : (b k n : ℕ) → length (last_digits b k n) ≡ k
length_digits b zero n = refl
length_digits b (suc k) n = simp length-append (omega (arith, length_digits b k (n / b)))

length_decimal : (n : ℕ) → length (decimal n) ≡ digit_count n
unfolding decimal
length_decimal n = length_digits 10 (digit_count n) n

pub length_is : (n k : ℕ) → IsDigitCount 10 1 n k → length (decimal n) ≡ k
unfolding CountIsFewest
length_is n k f = rw length_decimal (only_fewest n (digit_count n) k (count_is_fewest n) f)
