-- What is printed of a number is its text in specs/Text.
use mathlib.Core.Path.{◌≡◌, sym, ap}
use mathlib.Core.List.{List, [], ◌∷◌, ◌++◌}
use Prim.Native.Nat.{ℕ, zero, suc, ◌+◌, ◌-◌, ◌/◌, ◌%◌, ◌^◌, ◌≤◌, ◌<◌}
use native.Mathlib.Nat.{pow-suc}
use native.Mathlib.Omega.{arith}
use lib.IntN.{ℤ, pos, negsuc}
use lib.Signed.{mag}
use lib.Dec.{lit≤}
use borrow.Author.Tests.{lt-ltb}
use Rattle.std.specs.Fmt as std
use Rattle.std.proofs.lemmas.Fmt.{decimal_by_steps}
use Rattle.io.specs.Digits.{last_digits, IsDigitCount, hex_digit_ascii}
use Rattle.lines.specs.Text.{digit_count, CountIsFewest, decimal, signed_decimal}
use Rattle.lines.proofs.DigitCount.{only_fewest, count_is_fewest}

-- The last digits of n are these, as many as it takes.
abbrev Spells : ℕ → List ℕ → Type 0
Spells n ds = (k : ℕ) → IsDigitCount 10 1 n k → last_digits 10 k n ≡ ds

digit : (d : ℕ) → d < 10 → hex_digit_ascii d ≡ 48 + d
digit d h = rw (lt-ltb d 10 h)

one_digit : (n : ℕ) → n < 10 → Spells n ((48 + n) ∷ [])
one_digit n h k f =
    let e : k ≡ 1 = only_fewest n k 1 f (lit≤ tt, h, λ more. absurd (omega arith)) in
    let r : n % 10 ≡ n = omega arith in
    rw (e, r, digit n h)

more_digits : (n : ℕ) (ds : List ℕ) → 10 ≤ n → Spells (n / 10) ds → Spells n (ds ++ ((48 + n % 10) ∷ []))
more_digits n ds h s zero f = absurd (omega (arith, f.0))
more_digits n ds h s (suc zero) f = absurd (omega (arith, f.1))
more_digits n ds h s (suc (suc j)) f =
    let up = pow-suc 10 (suc j) in
    let down = pow-suc 10 j in
    let one_less : suc (suc j) - 1 ≡ suc j = omega arith in
    let two_less : suc j - 1 ≡ j = omega arith in
    let fills : 10 ^ suc j ≤ n = rw one_less at (f.2 (omega arith)) in
    let fewer : IsDigitCount 10 1 (n / 10) (suc j) = (omega arith, omega (arith, f.1), λ more. rw two_less (omega arith)) in
    rw (s (suc j) fewer, digit (n % 10) (omega arith))

pub decimal_printed : (n : ℕ) → n < 2 ^ 64 → std.decimal n ≡ decimal n
unfolding decimal CountIsFewest
decimal_printed n h = sym (decimal_by_steps Spells one_digit more_digits n h (digit_count n) (count_is_fewest n))

pub signed_printed : (z : ℤ) → mag z < 2 ^ 63 → std.signed_decimal z ≡ signed_decimal z
unfolding signed_decimal
signed_printed (pos n) h = decimal_printed n (omega arith)
signed_printed (negsuc n) h = ap (λ (t : List ℕ). 45 ∷ t) (decimal_printed (suc n) (omega arith))
