-- A service's price limits, as the code's type has them.
use Rattle.std.specs.Prelude.{List, ℕ, ℤ}
use Rattle.offer_rules.specs.Offer as rule
use Rattle.units.specs.Typed.{price_of}
use Rattle.offers.specs.declared.limits.PriceLimits.{PriceLimits}

abbrev pub limits_of : List ℤ → ℕ → PriceLimits
limits_of limits s = record { lowest = price_of (rule.lowest_price limits s); highest = price_of (rule.highest_price limits s) }
