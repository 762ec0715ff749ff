-- The claims of specs/Claims.
use mathlib.Core.Path.{◌≡◌, refl, sym, ap, ◌∙◌}
use mathlib.Core.Bool.{Bool, true, false, cond, not, and-false, or-true}
use Prim.Native.Nat.{ℕ, zero, suc, ◌+◌, ◌*◌, ◌-◌, ◌/◌, ◌%◌, ◌≤◌, ◌<◌}
use native.Mathlib.Omega.{arith}
use lib.Dec.{eqb}
use lib.IntN.{ℤ, pos, negsuc}
use lib.ListN.{get_or-eq_default}
use borrow.Author.Tests.{eq-eqb, ne_eqb, le-ltb}
use Rattle.offer_rules.specs.Numbers.{to_nat, between}
use Rattle.offer_rules.specs.Time.{periods_a_day}
use Rattle.offer_rules.proofs.Drawn.{and_left, and_right}
use Rattle.offer_rules.proofs.Ranges.{between_low, between_high, is_between, count_within}
use Rattle.calendar_rules.specs.Calendar.{divides, is_leap, month_lengths, month_days, days_before, days_of_years, date_exists, day_number, period_of_date, weekday_of, last_period, date_of_day}
use Rattle.calendar_rules.specs.Answers.{PeriodAnswer, DateAnswer, is_date_and_period, no_period, period_found, period_for, period_answer, is_outside_calendar, no_date, date_found, date_answer}
use Rattle.calendar_rules.specs.Claims.{Gregorian, Months, OneCount, LastDay, ThereAndBack, BackAndThere, NoTwoAlike, ExactlyTheDates, ExactlyThePeriods, ElseZeros, MondayIs0, WeekdayOfDate, WeekdayOfPeriod, SameTime}
use Rattle.calendar_rules.proofs.OneCount.{day_zero_is, day_by_day, no_other_count}
use Rattle.calendar_rules.proofs.RoundTrips.{exists_says, date_back, day_in_calendar, day_back, day_of_its_period, period_of_its_day, period_again}

-- ---- days

pub gregorian : Gregorian
unfolding is_leap
gregorian =
    record {
      by_400 = λ y h. rw (eq-eqb (y % 4) 0 (omega arith), h) (or-true (not (divides 100 y)));
      by_100 = λ y h k. rw (h, ne_eqb (y % 400) 0 k) (and-false (eqb (y % 4) 0));
      by_4 = λ y h k. rw (h, ne_eqb (y % 100) 0 k);
      by_none = λ y h. rw (ne_eqb (y % 4) 0 h);
    }

pub last_day_is : LastDay
unfolding LastDay period_of_date day_number days_before days_of_years month_days is_leap
last_day_is = (refl, refl)

pub months : Months
unfolding month_days
months =
    record {
      thirty = λ leap. refl;
      thirty_one = λ leap. refl;
      february = (refl, refl);
      no_more = λ leap m h. none_after leap m h;
    }
  where
    none_after : (leap : Bool) (m : ℕ) → 12 < m → month_days leap m ≡ 0
    none_after leap zero h = absurd (omega arith)
    none_after leap (suc m) h = get_or-eq_default (month_lengths leap) 0 {n = m} (omega arith)

pub one_count : OneCount
unfolding OneCount
one_count = (day_by_day, no_other_count)

-- ---- a date and period

-- An answer with number 0 is not the refusal.
period_accepted : (t : Bool) (a : PeriodAnswer) → (cond t a no_period).number ≡ 0 → t ≡ true
period_accepted true a e = refl
period_accepted false a e = absurd (omega arith)

date_accepted : (t : Bool) (a : DateAnswer) → (cond t no_date a).number ≡ 0 → t ≡ false
date_accepted true a e = absurd (omega arith)
date_accepted false a e = refl

-- A word that counts as 1 or more is its count.
word_is : (z : ℤ) → 1 ≤ to_nat z → pos (to_nat z) ≡ z
word_is (pos n) h = refl
word_is (negsuc n) h = absurd (omega arith)

in_calendar : (p : ℕ) → p ≤ last_period → is_outside_calendar (pos p) ≡ false
in_calendar p h = rw (le-ltb p 0 (omega arith), le-ltb last_period p h)

pub found_back : (y m d q : ℕ) → date_exists y m d ≡ true → between 1 periods_a_day q ≡ true
    → date_answer (pos (period_of_date y m d q))
    ≡ record { number = 0; year = pos y; month = pos m; day = pos d; period = pos q; weekday = pos (weekday_of (day_number y m d)) }
unfolding date_answer date_found period_of_date
found_back y m d q h k =
    let n = day_number y m d in
    let a = between_low 1 periods_a_day q k in
    let b = between_high 1 periods_a_day q k in
    let c = day_in_calendar y m d h in
    rw (in_calendar (48 * n + (q - 1)) (omega arith), day_of_its_period n q a b, period_of_its_day n q a b, date_back y m d h)

pub both_say : (y m d q : ℕ) → is_date_and_period y m d q ≡ true → (date_exists y m d ≡ true) × (between 1 periods_a_day q ≡ true)
unfolding is_date_and_period
both_say y m d q t =
    (and_left (date_exists y m d) (between 1 periods_a_day q) t, and_right (date_exists y m d) (between 1 periods_a_day q) t)

accepted_says : (y m d q : ℕ) → (period_for y m d q).number ≡ 0 → (date_exists y m d ≡ true) × (between 1 periods_a_day q ≡ true)
unfolding period_for
accepted_says y m d q e = both_say y m d q (period_accepted (is_date_and_period y m d q) (period_found y m d q) e)

says_found : (y m d q : ℕ) → date_exists y m d ≡ true → between 1 periods_a_day q ≡ true → period_for y m d q ≡ period_found y m d q
unfolding period_for is_date_and_period
says_found y m d q h k = rw (h, k)

pub there_and_back : ThereAndBack
unfolding ThereAndBack period_answer period_found
there_and_back year month day period e =
    let y = to_nat year in
    let m = to_nat month in
    let d = to_nat day in
    let q = to_nat period in
    let a = accepted_says y m d q e in
    let x = exists_says y m d a.0 in
    let b = between_low 1 periods_a_day q a.1 in
    let f = found_back y m d q a.0 a.1 in
    rw (says_found y m d q a.0 a.1, f, word_is year (omega arith), word_is month x.from_january, word_is day x.from_one, word_is period b)

-- ---- a period

back_for_counts : (p : ℕ) → p ≤ last_period
    → ((date_found p).number ≡ 0)
    × (period_answer (date_found p).year (date_found p).month (date_found p).day (date_found p).period
    ≡ record { number = 0; period = pos p; weekday = (date_found p).weekday })
unfolding date_found period_answer period_found period_of_date
back_for_counts p h =
    let n = p / 48 in
    let t = date_of_day n in
    let b = day_back n (omega arith) in
    let w = is_between 1 periods_a_day (p % 48 + 1) (omega arith) (omega arith) in
    (refl, rw (says_found t.year t.month t.day (p % 48 + 1) b.exists w, b.same_day, period_again p))

pub back_and_there : BackAndThere
unfolding BackAndThere date_answer
back_and_there (pos p) e =
    let o = date_accepted (is_outside_calendar (pos p)) (date_found p) e in
    rw o (back_for_counts p (count_within last_period (pos p) o).1).1
back_and_there (negsuc p) e = absurd (omega arith)

-- ---- no two alike

pub no_two_alike : NoTwoAlike
unfolding NoTwoAlike ThereAndBack
no_two_alike y m d q v n e r a b same =
    let f = sym (there_and_back y m d q a) ∙ ap date_answer same ∙ there_and_back v n e r b in
    record {
      same_year = ap (λ (x : DateAnswer). x.year) f;
      same_month = ap (λ (x : DateAnswer). x.month) f;
      same_day = ap (λ (x : DateAnswer). x.day) f;
      same_period = ap (λ (x : DateAnswer). x.period) f;
    }

-- ---- refusal 21

pub exactly_the_dates : ExactlyTheDates
unfolding ExactlyTheDates period_answer period_found
exactly_the_dates y m d q = (
  λ e. accepted_says (to_nat y) (to_nat m) (to_nat d) (to_nat q) e,
  λ h. ap (λ (a : PeriodAnswer). a.number) (says_found (to_nat y) (to_nat m) (to_nat d) (to_nat q) h.0 h.1),
)

pub exactly_the_periods : ExactlyThePeriods
unfolding ExactlyThePeriods date_answer date_found
exactly_the_periods p = (λ e. date_accepted (is_outside_calendar p) (date_found (to_nat p)) e, λ o. rw o)

refused_period : (t : Bool) (a : PeriodAnswer) → a.number ≡ 0 → ((cond t a no_period).number ≡ 0 → ⊥) → cond t a no_period ≡ no_period
refused_period true a z h = absurd (h z)
refused_period false a z h = refl

refused_date : (t : Bool) (a : DateAnswer) → a.number ≡ 0 → ((cond t no_date a).number ≡ 0 → ⊥) → cond t no_date a ≡ no_date
refused_date true a z h = refl
refused_date false a z h = absurd (h z)

pub else_zeros : ElseZeros
unfolding ElseZeros period_answer period_for period_found date_answer date_found
else_zeros = (
  λ y m d q h.
      refused_period (is_date_and_period (to_nat y) (to_nat m) (to_nat d) (to_nat q)) (period_found (to_nat y) (to_nat m) (to_nat d) (to_nat q)) refl h,
  λ p h. refused_date (is_outside_calendar p) (date_found (to_nat p)) refl h,
)

-- ---- weekdays

pub monday_is_0 : MondayIs0
unfolding MondayIs0
monday_is_0 = ap weekday_of day_zero_is

pub weekday_of_date : WeekdayOfDate
unfolding WeekdayOfDate period_answer period_found
weekday_of_date y m d q e =
    let a = accepted_says (to_nat y) (to_nat m) (to_nat d) (to_nat q) e in
    ap (λ (x : PeriodAnswer). x.weekday) (says_found (to_nat y) (to_nat m) (to_nat d) (to_nat q) a.0 a.1)

pub weekday_of_period : WeekdayOfPeriod
unfolding WeekdayOfPeriod BackAndThere WeekdayOfDate
weekday_of_period p e =
    let f = back_and_there p e in
    let t = date_answer p in
    sym (ap (λ (x : PeriodAnswer). x.weekday) f) ∙ weekday_of_date t.year t.month t.day t.period (ap (λ (x : PeriodAnswer). x.number) f)

-- ---- beside the book's time

pub same_time : SameTime
unfolding period_of_date
same_time =
    record {
      same_day = λ p. omega arith;
      slot_of_date = λ y m d q h.
          let a = between_low 1 periods_a_day q h in
          let b = between_high 1 periods_a_day q h in
          omega arith;
    }
