-- Months and years in days: one more of them, the twelve months make the year, and each has 28 days or more.
use mathlib.Core.Path.{◌≡◌, refl}
use mathlib.Core.Bool.{Bool, true, false}
use Prim.Native.Nat.{ℕ, suc, ◌+◌, ◌-◌, ◌≤◌}
use native.Mathlib.Omega.{arith}
use lib.Dec.{leb}
use borrow.Author.Tests.{leb-true}
use Rattle.calendar_rules.specs.Calendar.{first_year, is_leap, month_days, days_before, year_days, days_of_years, last_day}
use Rattle.calendar_rules.proofs.Everywhere.{passes_below, everywhere}

-- One month more, and one year more.
pub month_more : (leap : Bool) (m : ℕ) → days_before leap (suc m) ≡ days_before leap m + month_days leap m
unfolding days_before
month_more leap m = refl

pub year_more : (k : ℕ) → days_of_years (suc k) ≡ days_of_years k + year_days (is_leap (first_year + k))
unfolding days_of_years
year_more k = refl

pub no_year : days_of_years 0 ≡ 0
unfolding days_of_years
no_year = refl

pub no_month : (leap : Bool) → days_before leap 0 ≡ 0
unfolding days_before
no_month leap = refl

pub month_0 : (leap : Bool) → month_days leap 0 ≡ 0
unfolding month_days
month_0 leap = refl

pub months_make_the_year : (leap : Bool) → days_before leap 13 ≡ year_days leap
unfolding days_before month_days
months_make_the_year true = refl
months_make_the_year false = refl

pub months_rise : (leap : Bool) (m : ℕ) → days_before leap m ≤ days_before leap (suc m)
unfolding days_before
months_rise leap m = omega arith

pub years_rise : (k : ℕ) → days_of_years k ≤ days_of_years (suc k)
unfolding days_of_years
years_rise k = omega arith

pub years_in_all : days_of_years 76 ≡ suc last_day
unfolding days_of_years is_leap
years_in_all = refl

-- What a test says of months 1 to 12.
pub in_each_month : (test : ℕ → Bool) → passes_below (λ i. test (i + 1)) 12 ≡ true → (m : ℕ) → 1 ≤ m → m ≤ 12 → test m ≡ true
in_each_month test e m l h =
    let f : m - 1 + 1 ≡ m = omega arith in
    rw f at (everywhere (λ i. test (i + 1)) 12 e (m - 1) (omega arith))

twenty_eight : (leap : Bool) → passes_below (λ i. leb 28 (month_days leap (i + 1))) 12 ≡ true
unfolding passes_below month_days
twenty_eight true = refl
twenty_eight false = refl

pub at_least_28 : (leap : Bool) (m : ℕ) → 1 ≤ m → m ≤ 12 → 28 ≤ month_days leap m
at_least_28 leap m l h = leb-true 28 (month_days leap m) (in_each_month (λ k. leb 28 (month_days leap k)) (twenty_eight leap) m l h)
