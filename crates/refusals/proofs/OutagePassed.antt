-- An outage that draws no number: not of a minute to come, and of at most 48 periods.
-- The second is what an outage's window asks for.
use mathlib.Core.Path.{◌≡◌}
use mathlib.Core.Bool.{false, ◌||◌}
use mathlib.Core.List.{List}
use Prim.Native.Nat.{ℕ, ◌≤◌}
use native.Mathlib.Omega.{arith}
use borrow.Author.Tests.{ltb-false}
use lib.IntN.{ℤ, pos, negsuc}
use lib.Signed.{lt_z}
use Rattle.offer_rules.specs.Numbers.{to_nat, beyond}
use Rattle.offer_rules.specs.Kinds.{kind_row}
use Rattle.offer_rules.specs.Offer.{kind_of}
use Rattle.offer_rules.proofs.KindRows.{each_kind}
use Rattle.offer_rules.proofs.Drawn.{or_left, or_right, draw_zero}
use Rattle.book_rules.specs.Refusals.{outage_number}

not_above : (hi : ℕ) (z : ℤ) → lt_z (pos hi) z ≡ false → to_nat z ≤ hi
not_above hi (pos n) e = ltb-false hi n e
not_above hi (negsuc n) e = omega arith

-- 48 of a load, and no kind's is longer.
most_48 : (kind n : ℤ) → lt_z (kind_row kind).longest_outage n ≡ false → to_nat n ≤ 48
unfolding kind_row
most_48 kind n =
    each_kind (λ z. lt_z (kind_row z).longest_outage n ≡ false → to_nat n ≤ 48)
    (λ e. omega (arith, not_above 3 n e)) (λ e. not_above 48 n e) (λ e. omega (arith, not_above 0 n e))
    (λ z none a b c e. omega (arith, not_above 3 n (rw none at e))) kind

module _ (now : ℕ) (c : List ℤ) (m n : ℤ) where
  pub outage_passed : outage_number now c m n ≡ 0 → (to_nat m ≤ now) × (to_nat n ≤ 48)
  unfolding outage_number
  outage_passed e =
      let most = (kind_row (kind_of c)).longest_outage in
      let none = draw_zero (beyond (pos 0) (pos now) m || beyond (pos 1) most n) 7 (omega arith) e in
      let minute = or_left (beyond (pos 0) (pos now) m) (beyond (pos 1) most n) none in
      let count = or_right (beyond (pos 0) (pos now) m) (beyond (pos 1) most n) none in (
        not_above now m (or_right (lt_z m (pos 0)) (lt_z (pos now) m) minute),
        most_48 (kind_of c) n (or_right (lt_z n (pos 1)) (lt_z most n) count),
      )
