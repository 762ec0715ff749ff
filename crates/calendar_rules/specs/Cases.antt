-- Dates that anyone can look up, as one table for both ways, and what has none. Proved in proofs/Cases, by computing them.
use Rattle.std.specs.Prelude.{◌≡◌, true, false, List, [], ◌∷◌, map, ℕ, ℤ, pos, negsuc}
use Rattle.calendar_rules.specs.Calendar.{is_leap}
use Rattle.calendar_rules.specs.Answers.{PeriodAnswer, DateAnswer, period_answer, date_answer}

-- The Gregorian rule around the turns of centuries. No date of 2024 to 2099 tells.
unfoldable pub Centuries : Type 0
Centuries = (is_leap 2000 ≡ true) × (is_leap 2096 ≡ true) × (is_leap 2100 ≡ false)

-- A date and period, its P and its weekday.
pub record Dated : Type 0 where
  pub year : ℕ
  pub month : ℕ
  pub day : ℕ
  pub period : ℕ
  pub p : ℕ
  pub weekday : ℕ

abbrev dated : ℕ → ℕ → ℕ → ℕ → ℕ → ℕ → Dated
dated y m d q p w = record { year = y; month = m; day = d; period = q; p = p; weekday = w }

-- Both ends of the calendar; the leap days of 2024 and 2096, days 59 and 26,357, and the days around the first; turns of years; the last days of months.
abbrev pub dates : List Dated
dates =
    dated 2024 1 1 1 0 0
    ∷ dated 2024 1 1 48 47 0
    ∷ dated 2024 1 7 1 288 6
    ∷ dated 2024 1 8 5 340 0
    ∷ dated 2024 2 28 48 2831 2
    ∷ dated 2024 2 29 1 2832 3
    ∷ dated 2024 3 1 1 2880 4
    ∷ dated 2024 12 31 48 17567 1
    ∷ dated 2025 1 1 1 17568 2
    ∷ dated 2025 3 1 1 20400 5
    ∷ dated 2025 7 31 48 27743 3
    ∷ dated 2025 10 31 48 32159 4
    ∷ dated 2026 11 16 24 50423 0
    ∷ dated 2096 2 29 1 1265136 2
    ∷ dated 2099 12 31 48 1332431 3
    ∷ []

abbrev there : Dated → PeriodAnswer
there t = period_answer (pos t.year) (pos t.month) (pos t.day) (pos t.period)

abbrev back : Dated → DateAnswer
back t = date_answer (pos t.p)

unfoldable pub DatesThere : Type 0
DatesThere = map there dates ≡ map (λ t. record { number = 0; period = pos t.p; weekday = pos t.weekday }) dates

unfoldable pub DatesBack : Type 0
DatesBack =
    map back dates
    ≡ map (λ t. record { number = 0; year = pos t.year; month = pos t.month; day = pos t.day; period = pos t.period; weekday = pos t.weekday }) dates

-- ---- 21

pub record Asked : Type 0 where
  pub year : ℤ
  pub month : ℤ
  pub day : ℤ
  pub period : ℤ

abbrev asked : ℕ → ℕ → ℕ → ℕ → Asked
asked y m d q = record { year = pos y; month = pos m; day = pos d; period = pos q }

-- 29 February 2025, 31 April and its kind, month 13, the years beside the calendar, periods 0 and 49, a month below 0.
abbrev pub no_dates : List Asked
no_dates =
    asked 2025 2 29 1
    ∷ asked 2024 2 30 1
    ∷ asked 2024 4 31 1
    ∷ asked 2024 6 31 1
    ∷ asked 2024 9 31 1
    ∷ asked 2024 11 31 1
    ∷ asked 2024 1 0 1
    ∷ asked 2024 0 1 1
    ∷ asked 2024 13 1 1
    ∷ asked 2023 12 31 48
    ∷ asked 2100 1 1 1
    ∷ asked 2024 1 1 0
    ∷ asked 2024 1 1 49
    ∷ record { year = pos 2024; month = negsuc 0; day = pos 1; period = pos 1 }
    ∷ []

unfoldable pub NoDates : Type 0
NoDates = map (λ a. period_answer a.year a.month a.day a.period) no_dates ≡ map (λ (a : Asked). record { number = 21; period = pos 0; weekday = pos 0 }) no_dates

abbrev pub no_periods : List ℤ
no_periods = negsuc 0 ∷ pos 1332432 ∷ pos 33333333 ∷ []

unfoldable pub NoPeriods : Type 0
NoPeriods = map date_answer no_periods ≡ map (λ (p : ℤ). record { number = 21; year = pos 0; month = pos 0; day = pos 0; period = pos 0; weekday = pos 0 }) no_periods
