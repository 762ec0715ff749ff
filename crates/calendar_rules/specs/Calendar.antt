-- Document 02, "Dates on the filing screen": "turns year, month, day and period into P .. and P into these, for 2024 to 2099, by the Gregorian rule".
-- By counting: the days of the years before, the days of the months before, the day. Nothing here is a closed form.
use Rattle.std.specs.Prelude.{Bool, cond, not, ◌&&◌, ◌||◌, List, [], ◌∷◌, ℕ, zero, suc, ◌+◌, ◌*◌, ◌-◌, ◌/◌, ◌%◌, eqb, leb, get_or}
use Rattle.offer_rules.specs.Numbers.{between}
use Rattle.offer_rules.specs.Time.{periods_a_day}

-- "for 2024 to 2099"
abbrev pub first_year : ℕ
first_year = 2024

abbrev pub last_year : ℕ
last_year = 2099

-- ---- "the Gregorian rule"

abbrev pub divides : ℕ → ℕ → Bool
divides n year = eqb (year % n) 0

-- A year is a leap year where 4 divides it, but where 100 does only if 400 does.
unfoldable pub is_leap : ℕ → Bool
is_leap year = divides 4 year && (not (divides 100 year) || divides 400 year)

abbrev pub year_days : Bool → ℕ
year_days leap = cond leap 366 365

-- January to December.
abbrev pub month_lengths : Bool → List ℕ
month_lengths leap = 31 ∷ cond leap 29 28 ∷ 31 ∷ 30 ∷ 31 ∷ 30 ∷ 31 ∷ 31 ∷ 30 ∷ 31 ∷ 30 ∷ 31 ∷ []

-- January is month 1. A month that isn't 1 to 12 has no days.
unfoldable pub month_days : Bool → ℕ → ℕ
month_days leap zero = 0
month_days leap (suc m) = get_or (month_lengths leap) m 0

-- ---- a date to its day: "Day 0 is 1 January 2024"

-- The days of the months before it.
unfoldable pub days_before : Bool → ℕ → ℕ
days_before leap zero = 0
days_before leap (suc m) = days_before leap m + month_days leap m

-- The days of the first n years, 2024 being the first.
unfoldable pub days_of_years : ℕ → ℕ
days_of_years zero = 0
days_of_years (suc n) = days_of_years n + year_days (is_leap (first_year + n))

unfoldable pub date_exists : ℕ → ℕ → ℕ → Bool
date_exists year month day = (between first_year last_year year && between 1 12 month) && between 1 (month_days (is_leap year) month) day

unfoldable pub day_number : ℕ → ℕ → ℕ → ℕ
day_number year month day = (days_of_years (year - first_year) + days_before (is_leap year) month) + (day - 1)

-- "P, which is 48 times the day number plus the period less 1"
abbrev pub period_of_day : ℕ → ℕ → ℕ
period_of_day day period = periods_a_day * day + (period - 1)

unfoldable pub period_of_date : ℕ → ℕ → ℕ → ℕ → ℕ
period_of_date year month day period = period_of_day (day_number year month day) period

-- "the weekday, the day number mod 7, 0 for Monday"
abbrev pub weekday_of : ℕ → ℕ
weekday_of day = day % 7

-- "31 December 2099 is day 27,758"; its period 48 is the last that has a date (specs/Claims, LastDay).
abbrev pub last_day : ℕ
last_day = 27758

abbrev pub last_period : ℕ
last_period = 1332431

-- ---- a period to its day, and a day to its date

abbrev pub day_of_period : ℕ → ℕ
day_of_period p = p / periods_a_day

abbrev pub period_in_day : ℕ → ℕ
period_in_day p = p % periods_a_day + 1

-- Of things numbered 0 to k, number i beginning on day (begins i): the last that begins on day n or before.
unfoldable pub last_begun : (ℕ → ℕ) → ℕ → ℕ → ℕ
last_begun begins zero n = 0
last_begun begins (suc k) n = cond (leb (begins (suc k)) n) (suc k) (last_begun begins k n)

-- The last of the 76 years that begins on day n or before, as the count of years before it; and how many days of it are before day n.
abbrev pub years_before : ℕ → ℕ
years_before n = last_begun days_of_years 75 n

abbrev pub into_year : ℕ → ℕ
into_year n = n - days_of_years (years_before n)

-- The last of the 12 months that begins on day r of its year, counted from 0, or before. Month 0 has no days: month 1 begins with it.
abbrev pub month_at : Bool → ℕ → ℕ
month_at leap r = last_begun (days_before leap) 12 r

pub record Date : Type 0 where
  pub year : ℕ
  pub month : ℕ
  pub day : ℕ

abbrev pub date_in : Bool → ℕ → ℕ → Date
date_in leap years r = record { year = first_year + years; month = month_at leap r; day = r - days_before leap (month_at leap r) + 1 }

unfoldable pub date_of_day : ℕ → Date
date_of_day n = date_in (is_leap (first_year + years_before n)) (years_before n) (into_year n)
