-- What is answered of every four words, and of every P: a number, 0 or 21, and the values, which beside 21 are zeros.
use Rattle.std.specs.Prelude.{Bool, cond, ◌&&◌, ℕ, ℤ, pos}
use Rattle.offer_rules.specs.Numbers.{to_nat, between, beyond}
use Rattle.offer_rules.specs.Time.{periods_a_day}
use Rattle.calendar_rules.specs.Calendar.{date_exists, day_number, period_of_date, weekday_of, last_period, day_of_period, period_in_day, Date, date_of_day}

-- ---- year, month, day and period into P

pub record PeriodAnswer : Type 0 where
  pub number : ℕ
  pub period : ℤ
  pub weekday : ℤ

abbrev pub no_period : PeriodAnswer
no_period = record { number = 21; period = pos 0; weekday = pos 0 }

-- "21, tested on its own before anything else, where the date doesn't exist, the year is outside 2024–2099, the period is outside 1–48"
unfoldable pub is_date_and_period : ℕ → ℕ → ℕ → ℕ → Bool
is_date_and_period year month day period = date_exists year month day && between 1 periods_a_day period

-- "both ways also give the weekday"
unfoldable pub period_found : ℕ → ℕ → ℕ → ℕ → PeriodAnswer
period_found year month day period =
    record { number = 0; period = pos (period_of_date year month day period); weekday = pos (weekday_of (day_number year month day)) }

unfoldable pub period_for : ℕ → ℕ → ℕ → ℕ → PeriodAnswer
period_for year month day period = cond (is_date_and_period year month day period) (period_found year month day period) no_period

-- A word below 0 counts as 0, which is no year, no month, no day and no period.
unfoldable pub period_answer : ℤ → ℤ → ℤ → ℤ → PeriodAnswer
period_answer year month day period = period_for (to_nat year) (to_nat month) (to_nat day) (to_nat period)

-- ---- P into these

pub record DateAnswer : Type 0 where
  pub number : ℕ
  pub year : ℤ
  pub month : ℤ
  pub day : ℤ
  pub period : ℤ
  pub weekday : ℤ

-- 21 "or P is below 0 or beyond the last date's"
abbrev pub no_date : DateAnswer
no_date = record { number = 21; year = pos 0; month = pos 0; day = pos 0; period = pos 0; weekday = pos 0 }

abbrev pub is_outside_calendar : ℤ → Bool
is_outside_calendar p = beyond (pos 0) (pos last_period) p

abbrev pub as_answer : Date → ℕ → ℕ → DateAnswer
as_answer d period weekday =
    record { number = 0; year = pos d.year; month = pos d.month; day = pos d.day; period = pos period; weekday = pos weekday }

unfoldable pub date_found : ℕ → DateAnswer
date_found p = as_answer (date_of_day (day_of_period p)) (period_in_day p) (weekday_of (day_of_period p))

unfoldable pub date_answer : ℤ → DateAnswer
date_answer p = cond (is_outside_calendar p) no_date (date_found (to_nat p))
