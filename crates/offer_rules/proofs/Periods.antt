-- Periods that may be filed for, and the periods of one slot.
use mathlib.Core.Path.{◌≡◌, refl, sym}
use mathlib.Core.Logic.{◌≢◌}
use mathlib.Core.Bool.{Bool, true, false, cond, true≢false}
use Prim.Native.Nat.{ℕ, zero, suc, ◌+◌, ◌*◌, ◌-◌, ◌/◌, ◌%◌, ◌≤◌, ◌<◌}
use native.Mathlib.Omega.{arith}
use lib.IntN.{ℤ, pos, negsuc}
use borrow.Author.Tests.{leb-true, leb-false, lt-leb}
use Rattle.offer_rules.specs.Numbers.{to_nat}
use Rattle.offer_rules.specs.Time.{start_of, slots, slot_of, horizon_end, slot_refused, has_begun, past_horizon, period_refused, IsNext, first_not_begun, next_period, NextIsLeast, NextIsOne}
use Rattle.offer_rules.proofs.Drawn.{or_left, or_right}
use Rattle.offer_rules.proofs.Ranges.{within}

-- A slot that is not refused is one of the 336.
pub slot_is : (k : ℤ) → slot_refused k ≡ false → (k ≡ pos (to_nat k)) × (to_nat k < slots)
slot_is (pos k) e = (refl, omega (arith, (within _ _ k e).1))
slot_is (negsuc k) e = absurd (true≢false e)

not_begun : (now p : ℕ) → has_begun now (pos p) ≡ false → now < start_of p
unfolding has_begun
not_begun now p e = omega (arith, leb-false)

begun : (now p : ℕ) → has_begun now (pos p) ≡ true → start_of p ≤ now
unfolding has_begun
begun now p e = leb-true (start_of p) now e

later_not_begun : (now p : ℕ) → now < start_of p → has_begun now (pos p) ≡ false
unfolding has_begun
later_not_begun now p h = lt-leb (start_of p) now h

not_past : (now p : ℕ) → past_horizon now (pos p) ≡ false → p < horizon_end now
unfolding past_horizon
not_past now p e = omega (arith, leb-false)

-- A period that is not refused starts after now, and lies before the horizon.
pub period_is : (now : ℕ) (p : ℤ) → period_refused now p ≡ false → (p ≡ pos (to_nat p)) × (now < start_of (to_nat p)) × (to_nat p < horizon_end now)
unfolding period_refused
period_is now (pos p) e = (
  refl,
  not_begun now p (or_left (has_begun now (pos p)) (past_horizon now (pos p)) e),
  not_past now p (or_right (has_begun now (pos p)) (past_horizon now (pos p)) e),
)
period_is now (negsuc p) e = absurd (negative_begun now p (or_left (has_begun now (negsuc p)) (past_horizon now (negsuc p)) e))
  where
    negative_begun : (now p : ℕ) → has_begun now (negsuc p) ≡ false → ⊥
    negative_begun now p e = unfold has_begun in true≢false e

-- Another period of the slot of one that may be filed for has begun or lies past the horizon: no two share a slot.
pub one_of_a_slot : (now p q : ℕ) → now < start_of p → p < horizon_end now → now < start_of q → q ≢ p → slot_of q ≡ slot_of p → horizon_end now ≤ q
one_of_a_slot now p q a b c n e = omega arith

-- The least of a slot's periods that start after now is its next.
pub starts_next : (now k p : ℕ) → slot_of p ≡ k → now < start_of p → ((q : ℕ) → slot_of q ≡ k → now < start_of q → p ≤ q) → IsNext now k p
starts_next now k p e a l = record { of_the_slot = e; not_begun = later_not_begun now p a; least = λ q s b. l q s (not_begun now q b) }

chosen : (P : ℕ → Type 0) (t : Bool) {m n : ℕ} → (t ≡ true → P m) → (t ≡ false → P n) → P (cond t m n)
chosen P true x y = x refl
chosen P false x y = y refl

-- Counted up by weeks from a period of the slot, as long as they have begun.
counted_least : (weeks now k p : ℕ) → slot_of p ≡ k → ((q : ℕ) → slot_of q ≡ k → now < start_of q → p ≤ q) → now < start_of (p + weeks * slots)
    → IsNext now k (first_not_begun weeks now p)
unfolding first_not_begun
counted_least zero now k p e l h = starts_next now k p e (omega arith) l
counted_least (suc weeks) now k p e l h =
    chosen (IsNext now k) _
    (λ b. counted_least weeks now k (p + slots) (omega arith) (λ q s a. omega (arith, l q s a, begun _ _ b)) (omega arith))
    (λ b. starts_next now k p e (not_begun _ _ b) l)

-- What the rule counts is the least period of that slot not yet begun,
pub next_is_least : NextIsLeast
unfolding next_period
next_is_least now k h = counted_least _ now k _ (omega arith) (λ q e a. omega arith) (omega arith)

-- and no other period is.
pub next_is_one : NextIsOne
next_is_one now k p n = one (next_is_least now k (omega (arith, n.of_the_slot)))
  where
    one : IsNext now k (next_period now k) → p ≡ next_period now k
    one m = omega (arith, n.least _ m.of_the_slot m.not_begun, m.least p n.of_the_slot n.not_begun)

pub settled : (now k p : ℕ) → IsNext now k p → (p ≡ next_period now k) × IsNext now k p
settled now k p n = (next_is_one now k p n, n)

-- By remainders: how far the slot lies after the first period not yet begun.
pub next_by_remainders : (now k : ℕ) → k < slots → next_period now k ≡ now / 30 + 1 + (k + slots - slot_of (now / 30 + 1)) % slots
next_by_remainders now k h = sym (next_is_one now k _ (starts_next now k _ (omega arith) (omega arith) (λ q e a. omega arith)))

-- It is no later than the slot's period in the week after this minute's.
pub next_is_near : (now k p : ℕ) → IsNext now (slot_of k) p → p ≤ slot_of k + slots * (now / start_of slots + 1)
next_is_near now k p n = n.least (slot_of k + slots * (now / start_of slots + 1)) (omega arith) (later_not_begun now _ (omega arith))
