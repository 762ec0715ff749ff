-- The day number is a count day by day, and any other such count is the same: along a month, along a year, from year to year.
use mathlib.Core.Path.{◌≡◌, refl}
use mathlib.Core.Bool.{Bool, true}
use Prim.Native.Nat.{ℕ, zero, suc, ◌+◌, ◌-◌, ◌≤◌}
use native.Mathlib.Omega.{arith}
use Rattle.calendar_rules.specs.Calendar.{first_year, is_leap, month_days, days_before, year_days, days_of_years, date_exists, day_number}
use Rattle.calendar_rules.specs.Claims.{DayByDay}
use Rattle.calendar_rules.proofs.Lengths.{month_more, year_more, months_make_the_year, at_least_28}
use Rattle.calendar_rules.proofs.RoundTrips.{exists_says, says_exists}

december_days : (leap : Bool) → month_days leap 12 ≡ 31
unfolding month_days
december_days leap = refl

december_31 : (leap : Bool) → days_before leap 12 + 31 ≡ year_days leap
december_31 leap = omega (arith, month_more leap 12, months_make_the_year leap, december_days leap)

no_days_before_january : (leap : Bool) → days_before leap 1 ≡ 0
unfolding days_before month_days
no_days_before_january leap = refl

pub day_zero_is : day_number 2024 1 1 ≡ 0
unfolding day_number days_before days_of_years month_days
day_zero_is = refl

pub day_by_day : DayByDay day_number
unfolding day_number
day_by_day =
    record {
      day_zero = day_zero_is;
      in_month = λ y m d h k. omega arith;
      next_month = λ y m h k. next_month_1 y m h k;
      next_year = λ y h k. next_year_1 y k;
    }
  where
    next_month_1 : (y m : ℕ) → date_exists y (m + 1) 1 ≡ true → 1 ≤ m → day_number y (m + 1) 1 ≡ day_number y m (month_days (is_leap y) m) + 1
    next_month_1 y m h k =
        let x = exists_says y (m + 1) 1 h in
        let e : m + 1 ≡ suc m = omega arith in
        let s : days_before (is_leap y) (m + 1) ≡ days_before (is_leap y) m + month_days (is_leap y) m = rw e (month_more (is_leap y) m) in
        omega (arith, at_least_28 (is_leap y) m k (omega arith))

    next_year_1 : (y : ℕ) → first_year ≤ y → day_number (y + 1) 1 1 ≡ day_number y 12 31 + 1
    next_year_1 y h =
        let k = y - first_year in
        let e : y + 1 - first_year ≡ suc k = omega arith in
        let f : first_year + k ≡ y = omega arith in
        let s : days_of_years (suc k) ≡ days_of_years k + year_days (is_leap y) = rw f at (year_more k) in
        rw e (omega (arith, december_31 (is_leap y), no_days_before_january (is_leap (y + 1))))

-- ---- any other

module _ (f g : ℕ → ℕ → ℕ → ℕ) (df : DayByDay f) (dg : DayByDay g) where
  in_order : (y m : ℕ) → 2024 ≤ y → y ≤ 2099 → 1 ≤ m → m ≤ 12 → f y m 1 ≡ g y m 1 → (k : ℕ) → suc k ≤ month_days (is_leap y) m → f y m (suc k) ≡ g y m (suc k)
  in_order y m a b l h e zero n = e
  in_order y m a b l h e (suc k) n =
      let s : suc k + 1 ≡ suc (suc k) = omega arith in
      let x = says_exists y m (suc k + 1) (record { from_first = a; to_last = b; from_january = l; to_december = h; from_one = omega arith; to_end = omega arith }) in
      let p : f y m (suc (suc k)) ≡ f y m (suc k) + 1 = rw s at (df.in_month y m (suc k) x (omega arith)) in
      let q : g y m (suc (suc k)) ≡ g y m (suc k) + 1 = rw s at (dg.in_month y m (suc k) x (omega arith)) in
      omega (arith, in_order y m a b l h e k (omega arith))

  same_in_month : (y m d : ℕ) → 2024 ≤ y → y ≤ 2099 → 1 ≤ m → m ≤ 12 → f y m 1 ≡ g y m 1 → 1 ≤ d → d ≤ month_days (is_leap y) m → f y m d ≡ g y m d
  same_in_month y m d a b l h e i n = let s : suc (d - 1) ≡ d = omega arith in rw s at (in_order y m a b l h e (d - 1) (omega arith))

  same_firsts : (y : ℕ) → 2024 ≤ y → y ≤ 2099 → f y 1 1 ≡ g y 1 1 → (j : ℕ) → suc j ≤ 12 → f y (suc j) 1 ≡ g y (suc j) 1
  same_firsts y a b e zero h = e
  same_firsts y a b e (suc j) h =
      let s : suc j + 1 ≡ suc (suc j) = omega arith in
      let leap = is_leap y in
      let t = at_least_28 leap (suc (suc j)) (omega arith) (omega arith) in
      let u = at_least_28 leap (suc j) (omega arith) (omega arith) in
      let x = says_exists y (suc (suc j)) 1 (record { from_first = a; to_last = b; from_january = omega arith; to_december = h; from_one = omega arith; to_end = omega arith }) in
      let p : f y (suc (suc j)) 1 ≡ f y (suc j) (month_days leap (suc j)) + 1 = rw s at (df.next_month y (suc j) (rw s x) (omega arith)) in
      let q : g y (suc (suc j)) 1 ≡ g y (suc j) (month_days leap (suc j)) + 1 = rw s at (dg.next_month y (suc j) (rw s x) (omega arith)) in
      let i = same_firsts y a b e j (omega arith) in
      omega (arith, same_in_month y (suc j) (month_days leap (suc j)) a b (omega arith) (omega arith) i (omega arith) (omega arith))

  same_new_years : (k : ℕ) → k ≤ 75 → f (2024 + k) 1 1 ≡ g (2024 + k) 1 1
  same_new_years zero h = omega (arith, df.day_zero, dg.day_zero)
  same_new_years (suc k) h =
      let y = 2024 + k in
      let s : 2024 + k + 1 ≡ 2024 + suc k = omega arith in
      let t = at_least_28 (is_leap (2024 + k + 1)) 1 (omega arith) (omega arith) in
      let x = says_exists (2024 + k + 1) 1 1 (record { from_first = omega arith; to_last = omega arith; from_january = omega arith; to_december = omega arith; from_one = omega arith; to_end = omega arith }) in
      let p : f (2024 + suc k) 1 1 ≡ f (2024 + k) 12 31 + 1 = rw s at (df.next_year (2024 + k) x (omega arith)) in
      let q : g (2024 + suc k) 1 1 ≡ g (2024 + k) 12 31 + 1 = rw s at (dg.next_year (2024 + k) x (omega arith)) in
      let i = same_firsts y (omega arith) (omega arith) (same_new_years k (omega arith)) 11 (omega arith) in
      let d = december_days (is_leap y) in
      omega (arith, same_in_month y 12 31 (omega arith) (omega arith) (omega arith) (omega arith) i (omega arith) (omega arith))

  same_dates : (y m d : ℕ) → date_exists y m d ≡ true → f y m d ≡ g y m d
  same_dates y m d h =
      let x = exists_says y m d h in
      let s : 2024 + (y - 2024) ≡ y = omega arith in
      let v : f y 1 1 ≡ g y 1 1 = rw s at (same_new_years (y - 2024) (omega arith)) in
      let r : suc (m - 1) ≡ m = omega arith in
      let w : f y m 1 ≡ g y m 1 = rw r at (same_firsts y x.from_first x.to_last v (m - 1) (omega arith)) in
      same_in_month y m d x.from_first x.to_last x.from_january x.to_december w x.from_one x.to_end

pub no_other_count : (count : ℕ → ℕ → ℕ → ℕ) → DayByDay count → (y m d : ℕ) → date_exists y m d ≡ true → count y m d ≡ day_number y m d
no_other_count count c = same_dates count day_number c day_by_day
