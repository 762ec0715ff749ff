-- Document 01, "Units and time".
-- A price is whole cents per MWh, a quantity whole tenths of a MW, a ramp rate tenths of a MW per minute, a proportion thousandths.
-- Time is whole minutes from the start of day 0, a Monday; `now` is the clock.
use Rattle.std.specs.Prelude.{◌≡◌, Bool, true, false, cond, ◌||◌, ℕ, zero, suc, ◌+◌, ◌*◌, ◌/◌, ◌%◌, ◌≤◌, ◌<◌, leb, ℤ, pos, negsuc, ◌-ℤ◌}
use Rattle.std.specs.Int.Signed.{lt_z}
use Rattle.offer_rules.specs.Numbers.{beyond}

-- The clock's last minute: "outside 0 to 1,000,000,000" (1), "above 1,000,000,000" (6).
abbrev pub last_minute : ℕ
last_minute = 1000000000

-- "Period P starts at minute 30·P."
abbrev pub start_of : ℕ → ℕ
start_of p = 30 * p

-- "Day d is minutes div 1,440."
abbrev pub day_of : ℕ → ℕ
day_of now = now / 1440

-- "The slot of P is P mod 336."
abbrev pub slots : ℕ
slots = 336

abbrev pub slot_of : ℕ → ℕ
slot_of p = p % slots

-- A day's periods: the market numbers them 1 to 48.
abbrev pub periods_a_day : ℕ
periods_a_day = 48

-- The market outlook horizon: the first period that is too far ahead, 48·(d + 7).
abbrev pub horizon_days : ℕ
horizon_days = 7

abbrev pub horizon_end : ℕ → ℕ
horizon_end now = periods_a_day * (day_of now + horizon_days)

-- Refusal 10: "slot outside 0–335", the last of `slots`.
abbrev pub slot_refused : ℤ → Bool
slot_refused k = beyond (pos 0) (pos 335) k

-- Refusal 10: "P begun (30·P ≤ now)". A period before period 0 has begun.
unfoldable pub has_begun : ℕ → ℤ → Bool
has_begun now (pos p) = leb (start_of p) now
has_begun now (negsuc p) = true

-- Refusal 10: "or P ≥ 48·(d + 7), d the day of now".
unfoldable pub past_horizon : ℕ → ℤ → Bool
past_horizon now (pos p) = leb (horizon_end now) p
past_horizon now (negsuc p) = false

unfoldable pub period_refused : ℕ → ℤ → Bool
period_refused now p = has_begun now p || past_horizon now p

-- Document 02: "an offer accepted less than five minutes before a schedule isn't sure to be in it". It is shown so "while now minus that minute is below 5".
abbrev pub schedule_cutoff : ℤ
schedule_cutoff = pos 5

unfoldable pub is_fresh : ℕ → ℤ → Bool
is_fresh now minute = lt_z (pos now -ℤ minute) schedule_cutoff

-- Document 02: "the least period of that slot not yet begun, at slot boundaries as well": by refusal 10 a period that starts at this minute has begun.
pub record IsNext (now k p : ℕ) : Type 0 where
  pub of_the_slot : slot_of p ≡ k
  pub not_begun : has_begun now (pos p) ≡ false
  pub least : (q : ℕ) → slot_of q ≡ k → has_begun now (pos q) ≡ false → p ≤ q

-- "the slot's next period not yet begun": the first of k, k + 336, k + 672 .. that has not. At most now + 1 of them have.
unfoldable pub first_not_begun : ℕ → ℕ → ℕ → ℕ
first_not_begun zero now p = p
first_not_begun (suc weeks) now p = cond (has_begun now (pos p)) (first_not_begun weeks now (p + slots)) p

unfoldable pub next_period : ℕ → ℕ → ℕ
next_period now k = first_not_begun (suc now) now k

-- "For every slot 0 to 335 and minute .. it gives the least": what is counted is what the sentence asks (proofs/Periods, next-is-least).
abbrev pub NextIsLeast : Type 0
NextIsLeast = (now k : ℕ) → k < slots → IsNext now k (next_period now k)

-- And no other period is: the sentence settles it (proofs/Periods, next-is-one).
abbrev pub NextIsOne : Type 0
NextIsOne = (now k p : ℕ) → IsNext now k p → p ≡ next_period now k
