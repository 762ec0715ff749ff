-- Years by fours, of 1,461 days, the first of four being a leap year. That 2024 to 2099 go so is a test that the check computes.
use mathlib.Core.Path.{◌≡◌, refl, sym}
use mathlib.Core.Bool.{Bool, true, false}
use Prim.Native.Nat.{ℕ, suc, ◌+◌, ◌*◌, ◌/◌, ◌%◌, ◌<◌, ◌≤◌}
use native.Mathlib.Omega.{arith}
use lib.Dec.{eqb}
use borrow.Author.Tests.{eqb-true, eqb-false}
use Rattle.calendar_rules.specs.Calendar.{first_year, is_leap, year_days, days_of_years, years_before, into_year}
use Rattle.calendar_rules.proofs.Everywhere.{passes_below, agree}
use Rattle.calendar_rules.proofs.Begun.{none_other}
use Rattle.calendar_rules.proofs.Lengths.{year_more, years_rise}
use Rattle.calendar_rules.proofs.Claimed.{gregorian}

-- No year of 2024 to 2099 is a multiple of 100.
pub leap_by_fours : (n : ℕ) → n ≤ 75 → is_leap (first_year + n) ≡ eqb (n % 4) 0
leap_by_fours n h = by (eqb (n % 4) 0) refl
  where
    by : (t : Bool) → eqb (n % 4) 0 ≡ t → is_leap (first_year + n) ≡ t
    by true e = gregorian.by_4 (first_year + n) (omega (arith, eqb-true (n % 4) 0 e)) (λ z. omega arith)
    by false e = gregorian.by_none (first_year + n) (λ z. eqb-false (n % 4) 0 e (omega arith))

abbrev by_fours : ℕ → ℕ
by_fours n = (1461 * n + 3) / 4

fours_agree : passes_below (λ n. eqb (by_fours n) (days_of_years n)) 77 ≡ true
unfolding passes_below days_of_years is_leap
fours_agree = refl

pub years_by_fours : (n : ℕ) → n < 77 → (1461 * n + 3) / 4 ≡ days_of_years n
years_by_fours n h = agree by_fours days_of_years 77 fours_agree n h

-- The year of a day, and what is left of the day in it.
record InYear (n k : ℕ) : Type 0 where
  is_year : k ≡ years_before n
  has_begun : days_of_years k ≤ n
  has_not_ended : n < days_of_years k + year_days (is_leap (first_year + k))

year_found : (n : ℕ) → n ≤ 27758 → InYear n (4 * n / 1461)
year_found n h =
    let k = 4 * n / 1461 in
    let most : k ≤ 75 = omega arith in
    let begun : days_of_years k ≤ n = rw (sym (years_by_fours k (omega arith))) (omega arith) in
    let next : n < days_of_years (suc k) = rw (sym (years_by_fours (suc k) (omega arith))) (omega arith) in
    record {
      is_year = sym (none_other days_of_years years_rise 75 n k most begun next);
      has_begun = begun;
      has_not_ended = rw year_more at next;
    }

pub year_by_fours : (n : ℕ) → n ≤ 27758 → 4 * n / 1461 ≡ years_before n
year_by_fours n h = (year_found n h).is_year

pub left_by_fours : (n : ℕ) → n ≤ 27758 → 4 * n % 1461 / 4 ≡ into_year n
left_by_fours n h = rw (sym (year_by_fours n h), sym (years_by_fours (4 * n / 1461) (omega arith))) (omega arith)

pub left_in_year : (n : ℕ) → n ≤ 27758 → 4 * n % 1461 / 4 < year_days (is_leap (first_year + years_before n))
left_in_year n h =
    let y = year_found n h in
    let e = left_by_fours n h in
    rw (e, sym y.is_year) (omega (arith, y.has_begun, y.has_not_ended))
