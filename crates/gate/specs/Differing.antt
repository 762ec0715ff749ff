-- Document 01, "Gate": the first tenth that differs in price,
-- among those "from 1 to the smaller total" that must have "the same price in old and new".
use Rattle.std.specs.Prelude.{cond, List, ℕ, zero, suc, min, Option, Some, None}
use Rattle.offer_rules.specs.Numbers.{eq_z}
use Rattle.offer_rules.specs.Offer.{Pair}
use Rattle.offer_rules.specs.Gate.{total_tenths, price_of_tenth}

-- The first of two numbers of tenths, where 0 is none.
abbrev pub or_else : ℕ → ℕ → ℕ
or_else zero m = m
or_else (suc n) m = suc n

-- The lowest from 1 to n whose tenth differs in price; 0 where none does.
unfoldable pub first_differing_to : ℕ → List Pair → List Pair → ℕ
first_differing_to zero old new = 0
first_differing_to (suc n) old new =
    or_else (first_differing_to n old new) (cond (eq_z (price_of_tenth old (suc n)) (price_of_tenth new (suc n))) 0 (suc n))

unfoldable pub smaller_total : List Pair → List Pair → ℕ
smaller_total old new = min (total_tenths old) (total_tenths new)

unfoldable pub first_differing : List Pair → List Pair → ℕ
first_differing old new = first_differing_to (smaller_total old new) old new

-- That tenth, or none.
abbrev pub tenth_or_none : ℕ → Option ℕ
tenth_or_none zero = None
tenth_or_none (suc n) = Some (suc n)
