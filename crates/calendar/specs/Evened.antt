-- A year with a February of 30 days, in which twelve months of 31 and 30 share 367 days evenly. The code's own way to months; the rule doesn't know it.
use Rattle.std.specs.Prelude.{Bool, cond, ℕ, ◌+◌, ◌*◌, ◌-◌, ◌/◌, ltb}

-- The days before a month of it.
abbrev pub evenly : ℕ → ℕ
evenly month = (367 * month - 362) / 12

-- Day r of a year, r from 0, as a day of it.
abbrev pub evened : Bool → ℕ → ℕ
evened leap r = cond (ltb r (59 + cond leap 1 0)) r (r + 2 - cond leap 1 0)
