-- Refusal 10 of a period below 0, which is that of period 0.
use mathlib.Core.Path.{◌≡◌, refl}
use mathlib.Core.Bool.{◌||◌}
use Prim.Native.Nat.{ℕ}
use native.Mathlib.Omega.{arith}
use lib.Dec.{leb}
use lib.IntN.{ℤ, pos, negsuc}
use borrow.Author.Tests.{le-leb}
use Rattle.offer_rules.specs.Numbers.{to_nat}
use Rattle.offer_rules.specs.Time.{start_of, horizon_end, has_begun, past_horizon, period_refused}

pub refused_as_count : (now : ℕ) (p : ℤ) → period_refused now p ≡ (leb (start_of (to_nat p)) now || leb (horizon_end now) (to_nat p))
unfolding period_refused has_begun past_horizon
refused_as_count now (pos p) = refl
refused_as_count now (negsuc p) = rw (le-leb (start_of 0) now (omega arith))
