-- From a date to its day and back, and from a day to its date and back.
use mathlib.Core.Path.{◌≡◌, refl}
use mathlib.Core.Bool.{Bool, true, ◌&&◌}
use Prim.Native.Nat.{ℕ, zero, suc, ◌+◌, ◌*◌, ◌-◌, ◌/◌, ◌%◌, ◌<◌, ◌≤◌}
use native.Mathlib.Omega.{arith}
use Rattle.offer_rules.specs.Numbers.{between}
use Rattle.offer_rules.proofs.Drawn.{and_left, and_right}
use Rattle.offer_rules.proofs.Ranges.{and_holds, between_low, between_high, is_between}
use Rattle.calendar_rules.specs.Calendar.{first_year, last_year, is_leap, month_days, days_before, year_days, days_of_years, date_exists, day_number, last_day, Date, years_before, into_year, month_at, date_of_day}
use Rattle.calendar_rules.proofs.Begun.{last_at_most, last_has_begun, next_has_not, later_begins_later, none_other}
use Rattle.calendar_rules.proofs.Lengths.{month_more, year_more, no_year, no_month, month_0, months_make_the_year, months_rise, years_rise, years_in_all}

-- What a date that exists is, as orders.
pub record Exists (year month day : ℕ) : Type 0 where
  pub from_first : 2024 ≤ year
  pub to_last : year ≤ 2099
  pub from_january : 1 ≤ month
  pub to_december : month ≤ 12
  pub from_one : 1 ≤ day
  pub to_end : day ≤ month_days (is_leap year) month

pub exists_says : (y m d : ℕ) → date_exists y m d ≡ true → Exists y m d
unfolding date_exists
exists_says y m d e =
    let f = and_left (between first_year last_year y && between 1 12 m) (between 1 (month_days (is_leap y) m) d) e in
    let g = and_right (between first_year last_year y && between 1 12 m) (between 1 (month_days (is_leap y) m) d) e in
    let a = and_left (between first_year last_year y) (between 1 12 m) f in
    let b = and_right (between first_year last_year y) (between 1 12 m) f in
    record {
      from_first = between_low first_year last_year y a;
      to_last = between_high first_year last_year y a;
      from_january = between_low 1 12 m b;
      to_december = between_high 1 12 m b;
      from_one = between_low 1 (month_days (is_leap y) m) d g;
      to_end = between_high 1 (month_days (is_leap y) m) d g;
    }

pub says_exists : (y m d : ℕ) → Exists y m d → date_exists y m d ≡ true
unfolding date_exists
says_exists y m d x =
    and_holds (between first_year last_year y && between 1 12 m) (between 1 (month_days (is_leap y) m) d)
    (and_holds (between first_year last_year y) (between 1 12 m) (is_between first_year last_year y x.from_first x.to_last) (is_between 1 12 m x.from_january x.to_december))
    (is_between 1 (month_days (is_leap y) m) d x.from_one x.to_end)

-- ---- a day of a year

-- Day d of month m is before the next month, and so before the year's end.
pub in_month : (leap : Bool) (m d : ℕ) → m ≤ 12 → 1 ≤ d → d ≤ month_days leap m
    → (days_before leap m + (d - 1) < days_before leap (suc m)) × (days_before leap m + (d - 1) < year_days leap)
unfolding days_before
in_month leap m d h k l =
    let n : days_before leap m + (d - 1) < days_before leap (suc m) = omega arith in
    (n, omega (arith, later_begins_later (days_before leap) (months_rise leap) (suc m) 13 (omega arith), months_make_the_year leap))

-- The date of a day, from where its year and its month begin.
pub date_is : (n k r m : ℕ) → k ≤ 75 → m ≤ 12 → n ≡ days_of_years k + r → r < year_days (is_leap (first_year + k))
    → days_before (is_leap (first_year + k)) m ≤ r → r < days_before (is_leap (first_year + k)) (suc m)
    → date_of_day n ≡ record { year = first_year + k; month = m; day = r - days_before (is_leap (first_year + k)) m + 1 }
unfolding date_of_day days_of_years
date_is n k r m hk hm e hr l u =
    let leap = is_leap (first_year + k) in
    let y : years_before n ≡ k = none_other days_of_years years_rise 75 n k hk (omega arith) (omega arith) in
    let d : n - days_of_years k ≡ r = omega arith in
    let z : month_at leap r ≡ m = none_other (days_before leap) (months_rise leap) 12 r m hm l u in
    rw (y, d, z)

-- A date that exists is the date of its day.
pub date_back : (y m d : ℕ) → date_exists y m d ≡ true → date_of_day (day_number y m d) ≡ record { year = y; month = m; day = d }
unfolding day_number
date_back y m d h =
    let x = exists_says y m d h in
    let e : first_year + (y - first_year) ≡ y = omega arith in
    let i = in_month (is_leap y) m d x.to_december x.from_one x.to_end in
    let r = days_before (is_leap y) m + (d - 1) in
    let f : days_before (is_leap y) m + (d - 1) - days_before (is_leap y) m + 1 ≡ d = omega arith in
    rw (e, f) at (date_is (day_number y m d) (y - first_year) r m (omega arith) x.to_december (omega arith) (rw e i.1) (rw e (omega arith)) (rw e i.0))

-- Its day is one of the calendar's.
pub day_in_calendar : (y m d : ℕ) → date_exists y m d ≡ true → day_number y m d ≤ last_day
unfolding day_number
day_in_calendar y m d h =
    let x = exists_says y m d h in
    let k = y - first_year in
    let e : first_year + k ≡ y = omega arith in
    let i = in_month (is_leap y) m d x.to_december x.from_one x.to_end in
    let s : days_of_years (suc k) ≡ days_of_years k + year_days (is_leap y) = rw e at (year_more k) in
    let t : days_of_years (suc k) ≤ 27759 = rw years_in_all at (later_begins_later days_of_years years_rise (suc k) 76 (omega arith)) in
    omega arith

-- The date of a day of the calendar exists, and its day is that day.
pub record DayBack (n : ℕ) (t : Date) : Type 0 where
  pub exists : date_exists t.year t.month t.day ≡ true
  pub same_day : day_number t.year t.month t.day ≡ n

-- A day r of a year: its month, by the last that has begun.
in_its_month : (leap : Bool) (r : ℕ) → r < year_days leap
    → (1 ≤ month_at leap r) × (month_at leap r ≤ 12) × (days_before leap (month_at leap r) ≤ r) × (r < days_before leap (month_at leap r) + month_days leap (month_at leap r))
in_its_month leap r h =
    let m = month_at leap r in
    let most : m ≤ 12 = last_at_most (days_before leap) 12 r in
    let low : days_before leap m ≤ r = last_has_begun (days_before leap) 12 r (rw no_month (omega arith)) in
    let next : r < days_before leap (suc m) = next_has_not (days_before leap) 12 r (rw months_make_the_year h) in
    let high : r < days_before leap m + month_days leap m = rw month_more at next in
    (go m refl high, most, low, high)
  where
    go : (m : ℕ) → m ≡ month_at leap r → r < days_before leap m + month_days leap m → 1 ≤ m
    go zero e u = absurd (omega (arith, no_month leap, month_0 leap))
    go (suc m) e u = omega arith

pub day_back : (n : ℕ) → n ≤ last_day → DayBack n (date_of_day n)
unfolding date_of_day day_number
day_back n h =
    let k = years_before n in
    let leap = is_leap (first_year + k) in
    let r = into_year n in
    let m = month_at leap r in
    let most : k ≤ 75 = last_at_most days_of_years 75 n in
    let low : days_of_years k ≤ n = last_has_begun days_of_years 75 n (rw no_year (omega arith)) in
    let next : n < days_of_years (suc k) = next_has_not days_of_years 75 n (rw years_in_all (omega arith)) in
    let high : n < days_of_years k + year_days (is_leap (first_year + k)) = rw year_more at next in
    let i = in_its_month leap r (omega arith) in
    let e : first_year + k - first_year ≡ k = omega arith in
    record {
      exists = says_exists (first_year + k) m (r - days_before leap m + 1) (record {
        from_first = omega arith;
        to_last = omega arith;
        from_january = i.0;
        to_december = i.1;
        from_one = omega arith;
        to_end = omega arith;
      });
      same_day = rw e (omega arith);
    }

-- ---- periods

pub day_of_its_period : (n q : ℕ) → 1 ≤ q → q ≤ 48 → (48 * n + (q - 1)) / 48 ≡ n
day_of_its_period n q h k = omega arith

pub period_of_its_day : (n q : ℕ) → 1 ≤ q → q ≤ 48 → (48 * n + (q - 1)) % 48 + 1 ≡ q
period_of_its_day n q h k = omega arith

pub period_again : (p : ℕ) → 48 * (p / 48) + (p % 48 + 1 - 1) ≡ p
period_again p = omega arith
