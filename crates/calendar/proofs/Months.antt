-- Months by division: each rule by a test that the check computes, at every month or at every day of a year.
use mathlib.Core.Path.{◌≡◌, refl, sym}
use mathlib.Core.Bool.{Bool, true, false, cond}
use Prim.Native.Nat.{ℕ, ◌+◌, ◌*◌, ◌-◌, ◌/◌, ◌%◌, ◌<◌, ◌≤◌}
use lib.Dec.{eqb, ltb}
use borrow.Author.Tests.{eqb-true}
use Rattle.calendar_rules.specs.Calendar.{year_days, month_days, days_before, last_begun, month_at}
use Rattle.calendar.specs.Evened.{evenly, evened}
use Rattle.calendar_rules.proofs.Everywhere.{passes_below, agree}
use Rattle.calendar_rules.proofs.Lengths.{in_each_month}

-- ---- a month's days, and the days before it, as the code has them

abbrev in_turns : Bool → ℕ → ℕ
in_turns leap m = cond (eqb m 2) (28 + cond leap 1 0) (30 + (m + m / 8) % 2)

abbrev before_evenly : Bool → ℕ → ℕ
before_evenly leap m = cond (ltb m 3) (evenly m) (evenly m + cond leap 1 0 - 2)

turns_agree : (leap : Bool) → passes_below (λ i. eqb (in_turns leap (i + 1)) (month_days leap (i + 1))) 12 ≡ true
unfolding passes_below month_days
turns_agree true = refl
turns_agree false = refl

before_agree : (leap : Bool) → passes_below (λ i. eqb (before_evenly leap (i + 1)) (days_before leap (i + 1))) 12 ≡ true
unfolding passes_below days_before month_days
before_agree true = refl
before_agree false = refl

in_each : (f g : ℕ → ℕ) → passes_below (λ i. eqb (f (i + 1)) (g (i + 1))) 12 ≡ true → (m : ℕ) → 1 ≤ m → m ≤ 12 → g m ≡ f m
in_each f g e m l h = sym (eqb-true (f m) (g m) (in_each_month (λ k. eqb (f k) (g k)) e m l h))

pub days_in_turns : (leap : Bool) (m : ℕ) → 1 ≤ m → m ≤ 12 → month_days leap m ≡ in_turns leap m
days_in_turns leap = in_each (in_turns leap) (month_days leap) (turns_agree leap)

pub days_before_it : (leap : Bool) (m : ℕ) → 1 ≤ m → m ≤ 12 → days_before leap m ≡ before_evenly leap m
days_before_it leap = in_each (before_evenly leap) (days_before leap) (before_agree leap)

-- ---- the month of a day, and the day of it

abbrev fallen_month : Bool → ℕ → ℕ
fallen_month leap r = (12 * evened leap r + 373) / 367

abbrev fallen_day : Bool → ℕ → ℕ
fallen_day leap r = evened leap r - evenly (fallen_month leap r) + 1

abbrev day_at : Bool → ℕ → ℕ
day_at leap r = r - days_before leap (month_at leap r) + 1

-- They are those of the rule.
months_agree : (leap : Bool) → passes_below (λ r. eqb (fallen_month leap r) (month_at leap r)) (year_days leap) ≡ true
unfolding passes_below last_begun days_before month_days
months_agree true = refl
months_agree false = refl

month_days_agree : (leap : Bool) → passes_below (λ r. eqb (fallen_day leap r) (day_at leap r)) (year_days leap) ≡ true
unfolding passes_below last_begun days_before month_days
month_days_agree true = refl
month_days_agree false = refl

pub month_falls : (leap : Bool) (r : ℕ) → r < year_days leap → month_at leap r ≡ fallen_month leap r
month_falls leap r h = sym (agree (fallen_month leap) (month_at leap) (year_days leap) (months_agree leap) r h)

pub day_falls : (leap : Bool) (r : ℕ) → r < year_days leap → day_at leap r ≡ fallen_day leap r
day_falls leap r h = sym (agree (fallen_day leap) (day_at leap) (year_days leap) (month_days_agree leap) r h)
