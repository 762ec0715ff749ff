-- A slot or a period that passes 10, and a slot's next period, are small numbers.
use Rattle.std.proofs.Common.{◌≡◌, ℕ, ℤ, ◌≤◌, ◌<◌, arith}
use Rattle.offer_rules.specs.Numbers.{to_nat, draw}
use Rattle.offer_rules.specs.Time.{slot_of, slot_refused, period_refused, IsNext}
use Rattle.offer_rules.proofs.Drawn.{draw_zero}
use Rattle.offer_rules.proofs.Periods.{slot_is, period_is, next_is_near}

pub in_week : (k : ℤ) → draw (slot_refused k) 10 ≡ 0 → to_nat k < 336
in_week k e = (slot_is k (draw_zero (slot_refused k) 10 (omega arith) e)).1

-- A period lies within the horizon of a clock in time.
pub not_far : (now : ℕ) (p : ℤ) → draw (period_refused now p) 10 ≡ 0 → now ≤ 1000000000 → to_nat p < 40000000
not_far now p e h = omega (arith, (period_is now p (draw_zero (period_refused now p) 10 (omega arith) e)).2)

pub next_has_stamp : (now k p : ℕ) → IsNext now (slot_of k) p → now ≤ 1000000000 → p < 2147483647
next_has_stamp now k p n h = omega (arith, next_is_near now k p n)

-- A slot is its own.
pub own_slot : (k : ℕ) → k < 336 → slot_of k ≡ k
own_slot k h = omega arith
