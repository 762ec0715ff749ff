-- What document 02 says of dates, as claims about the definitions, for all words. Their proofs are in proofs/Claimed.
use Rattle.std.specs.Prelude.{◌≡◌, ◌↔◌, ◌≢◌, Bool, true, false, [], ◌∷◌, map, ℕ, ◌+◌, ◌*◌, ◌-◌, ◌%◌, ◌≤◌, ◌<◌, ℤ, pos}
use Rattle.offer_rules.specs.Numbers.{to_nat, between}
use Rattle.offer_rules.specs.Time.{start_of, day_of, periods_a_day, slot_of}
use Rattle.calendar_rules.specs.Calendar.{first_year, last_year, is_leap, month_days, date_exists, day_number, period_of_date, weekday_of, last_day, last_period, day_of_period}
use Rattle.calendar_rules.specs.Answers.{no_period, period_answer, is_outside_calendar, no_date, date_answer}

-- ---- the day number

-- "the Gregorian rule", case by case, for every year there is.
pub record Gregorian : Type 0 where
  pub by_400 : (y : ℕ) → y % 400 ≡ 0 → is_leap y ≡ true
  pub by_100 : (y : ℕ) → y % 100 ≡ 0 → y % 400 ≢ 0 → is_leap y ≡ false
  pub by_4 : (y : ℕ) → y % 4 ≡ 0 → y % 100 ≢ 0 → is_leap y ≡ true
  pub by_none : (y : ℕ) → y % 4 ≢ 0 → is_leap y ≡ false

-- The months as anyone knows them: four have 30 days, February 28 or 29, the others 31; there are no more than twelve.
pub record Months : Type 0 where
  pub thirty : (leap : Bool) → map (month_days leap) (4 ∷ 6 ∷ 9 ∷ 11 ∷ []) ≡ 30 ∷ 30 ∷ 30 ∷ 30 ∷ []
  pub thirty_one : (leap : Bool) → map (month_days leap) (1 ∷ 3 ∷ 5 ∷ 7 ∷ 8 ∷ 10 ∷ 12 ∷ []) ≡ 31 ∷ 31 ∷ 31 ∷ 31 ∷ 31 ∷ 31 ∷ 31 ∷ []
  pub february : (month_days true 2 ≡ 29) × (month_days false 2 ≡ 28)
  pub no_more : (leap : Bool) (m : ℕ) → 12 < m → month_days leap m ≡ 0

-- A count of days: "Day 0 is 1 January 2024", and each other date is one day after the date before it, in its month, in the month before or in the year before.
pub record DayByDay (count : ℕ → ℕ → ℕ → ℕ) : Type 0 where
  pub day_zero : count 2024 1 1 ≡ 0
  pub in_month : (y m d : ℕ) → date_exists y m (d + 1) ≡ true → 1 ≤ d → count y m (d + 1) ≡ count y m d + 1
  pub next_month : (y m : ℕ) → date_exists y (m + 1) 1 ≡ true → 1 ≤ m → count y (m + 1) 1 ≡ count y m (month_days (is_leap y) m) + 1
  pub next_year : (y : ℕ) → date_exists (y + 1) 1 1 ≡ true → first_year ≤ y → count (y + 1) 1 1 ≡ count y 12 31 + 1

-- The day number is one, and there is no other.
unfoldable pub OneCount : Type 0
OneCount = DayByDay day_number
    × ((count : ℕ → ℕ → ℕ → ℕ) → DayByDay count → (y m d : ℕ) → date_exists y m d ≡ true → count y m d ≡ day_number y m d)

-- "31 December 2099 is day 27,758", and its period 48 is the last.
unfoldable pub LastDay : Type 0
LastDay = (day_number last_year 12 31 ≡ last_day) × (period_of_date last_year 12 31 periods_a_day ≡ last_period)

-- ---- "Each date and period goes to one P and comes back"

unfoldable pub ThereAndBack : Type 0
ThereAndBack = (y m d q : ℤ) → (period_answer y m d q).number ≡ 0
    → date_answer (period_answer y m d q).period ≡ record { number = 0; year = y; month = m; day = d; period = q; weekday = (period_answer y m d q).weekday }

-- And each P that has a date goes to it and comes back.
unfoldable pub BackAndThere : Type 0
BackAndThere = (p : ℤ) → (date_answer p).number ≡ 0
    → period_answer (date_answer p).year (date_answer p).month (date_answer p).day (date_answer p).period
    ≡ record { number = 0; period = p; weekday = (date_answer p).weekday }

-- No two dates and periods go to one P.
pub record SameDate (y m d q y' m' d' q' : ℤ) : Type 0 where
  pub same_year : y ≡ y'
  pub same_month : m ≡ m'
  pub same_day : d ≡ d'
  pub same_period : q ≡ q'

unfoldable pub NoTwoAlike : Type 0
NoTwoAlike = (y m d q y' m' d' q' : ℤ) → (period_answer y m d q).number ≡ 0 → (period_answer y' m' d' q').number ≡ 0
    → (period_answer y m d q).period ≡ (period_answer y' m' d' q').period → SameDate y m d q y' m' d' q'

-- ---- 21

-- Exactly the dates that exist, with the periods of a day, are accepted.
unfoldable pub ExactlyTheDates : Type 0
ExactlyTheDates = (y m d q : ℤ) → ((period_answer y m d q).number ≡ 0)
    ↔ ((date_exists (to_nat y) (to_nat m) (to_nat d) ≡ true) × (between 1 periods_a_day (to_nat q) ≡ true))

-- Exactly the periods up to the last date's are.
unfoldable pub ExactlyThePeriods : Type 0
ExactlyThePeriods = (p : ℤ) → ((date_answer p).number ≡ 0) ↔ (is_outside_calendar p ≡ false)

-- What isn't accepted gets 21 and zeros.
unfoldable pub ElseZeros : Type 0
ElseZeros = ((y m d q : ℤ) → (period_answer y m d q).number ≢ 0 → period_answer y m d q ≡ no_period)
    × ((p : ℤ) → (date_answer p).number ≢ 0 → date_answer p ≡ no_date)

-- ---- "both ways also give the weekday, the day number mod 7, 0 for Monday"

-- Day 0 is "a Monday".
unfoldable pub MondayIs0 : Type 0
MondayIs0 = weekday_of (day_number 2024 1 1) ≡ 0

unfoldable pub WeekdayOfDate : Type 0
WeekdayOfDate = (y m d q : ℤ) → (period_answer y m d q).number ≡ 0
    → (period_answer y m d q).weekday ≡ pos (day_number (to_nat y) (to_nat m) (to_nat d) % 7)

unfoldable pub WeekdayOfPeriod : Type 0
WeekdayOfPeriod = (p : ℤ) → (date_answer p).number ≡ 0
    → (date_answer p).weekday ≡ pos (day_number (to_nat (date_answer p).year) (to_nat (date_answer p).month) (to_nat (date_answer p).day) % 7)

-- ---- beside "Units and time"

-- The day of P is the day of the minute at which P starts; and the slot of a date's P is its weekday and period.
pub record SameTime : Type 0 where
  pub same_day : (p : ℕ) → day_of_period p ≡ day_of (start_of p)
  pub slot_of_date : (y m d q : ℕ) → between 1 periods_a_day q ≡ true
      → slot_of (period_of_date y m d q) ≡ periods_a_day * weekday_of (day_number y m d) + (q - 1)
