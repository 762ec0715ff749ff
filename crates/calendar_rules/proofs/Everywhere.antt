-- A rule at each number below a bound, by one test that the check computes.
use mathlib.Core.Path.{◌≡◌, refl, ap, ◌∙◌}
use mathlib.Core.Bool.{Bool, true, false, ◌&&◌}
use Prim.Native.Nat.{ℕ, zero, suc, ◌<◌}
use native.Mathlib.Omega.{arith}
use lib.Dec.{eqb}
use borrow.Author.Tests.{eqb-true, eqb-false}
use Rattle.offer_rules.proofs.Drawn.{and_left, and_right}

-- The test passes at 0 to n - 1.
unfoldable pub passes_below : (ℕ → Bool) → ℕ → Bool
passes_below test zero = true
passes_below test (suc n) = test n && passes_below test n

pub everywhere : (test : ℕ → Bool) (n : ℕ) → passes_below test n ≡ true → (k : ℕ) → k < n → test k ≡ true
unfolding passes_below
everywhere test zero e k h = absurd (omega arith)
everywhere test (suc n) e k h = go (eqb k n) refl (everywhere test n (and_right (test n) (passes_below test n) e))
  where
    go : (t : Bool) → eqb k n ≡ t → ((j : ℕ) → j < n → test j ≡ true) → test k ≡ true
    go true i below = ap test (eqb-true k n i) ∙ and_left (test n) (passes_below test n) e
    go false i below = let ne = eqb-false k n i in below k (omega (arith, ne))

-- Two functions that agree.
pub agree : (f g : ℕ → ℕ) (n : ℕ) → passes_below (λ k. eqb (f k) (g k)) n ≡ true → (k : ℕ) → k < n → f k ≡ g k
agree f g n e k h = eqb-true (f k) (g k) (everywhere (λ j. eqb (f j) (g j)) n e k h)
