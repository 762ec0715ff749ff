-- Each row of the tables of specs/Cases, by computing all of them at once.
use mathlib.Core.Path.{refl}
use Rattle.calendar_rules.specs.Calendar.{is_leap, month_days, days_before, days_of_years, date_exists, day_number, period_of_date, last_begun, date_of_day}
use Rattle.calendar_rules.specs.Answers.{is_date_and_period, period_found, period_for, period_answer, date_found, date_answer}
use Rattle.calendar_rules.specs.Cases.{Centuries, DatesThere, DatesBack, NoDates, NoPeriods}

pub centuries : Centuries
unfolding Centuries is_leap
centuries = (refl, refl, refl)

pub dates_there : DatesThere
unfolding DatesThere is_leap month_days days_before days_of_years date_exists day_number period_of_date is_date_and_period period_found period_for period_answer
dates_there = refl

pub dates_back : DatesBack
unfolding DatesBack is_leap month_days days_before days_of_years last_begun date_of_day date_found date_answer
dates_back = refl

pub no_dates_there : NoDates
unfolding NoDates is_leap month_days date_exists is_date_and_period period_for period_answer
no_dates_there = refl

pub no_periods_back : NoPeriods
unfolding NoPeriods date_answer
no_periods_back = refl
