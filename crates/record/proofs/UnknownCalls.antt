-- A byte 5 that is none of the nine calls uses no byte.
-- What a match tells its last arm is that no key of the others fits.
use mathlib.Core.Path.{◌≡◌}
use mathlib.Core.Bool.{false}
use Prim.Native.Nat.{ℕ, ◌≤◌, ◌<◌}
use native.Mathlib.Omega.{arith}
use borrow.Author.Tests.{ne_eqb}
use Rattle.book_rules.specs.Record.{used}

abbrev pub NoCall : ℕ → Type 0
NoCall k = 1 ≤ k → 9 < k

pub unknown_uses_none : (k s i : ℕ) → NoCall k → used k s i ≡ false
unfolding used
unknown_uses_none k s i h =
    rw (
      ne_eqb k 1 (λ e. omega arith),
      ne_eqb k 2 (λ e. omega arith),
      ne_eqb k 3 (λ e. omega arith),
      ne_eqb k 4 (λ e. omega arith),
      ne_eqb k 5 (λ e. omega arith),
      ne_eqb k 6 (λ e. omega arith),
      ne_eqb k 7 (λ e. omega arith),
      ne_eqb k 8 (λ e. omega arith),
      ne_eqb k 9 (λ e. omega arith),
    )
