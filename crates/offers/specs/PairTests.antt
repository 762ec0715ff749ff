-- The tests of a pair over typed prices and quantities, and what a walk through the pairs finds up to the first blank.
-- proofs/Walks shows that what it finds, and what is tested of the pairs after it, gives refusals 11 to 13.
use Rattle.std.specs.Prelude.{◌≡◌, Bool, true, false, not, cond, ◌&&◌, List, [], ◌∷◌, ℕ, ◌+◌, eqb, ℤ, pos, ◌+ℤ◌, drop, Option, Some, None, Result, Ok, Err}
use Rattle.std.specs.Int.Signed.{lt_z}
use Rattle.offer_rules.specs.Numbers.{eq_z, any_beyond, draw, ◌then◌}
use Rattle.offer_rules.specs.Offer.{Pair, any_pair, pair_beyond, blank_refused, non_blank_prices, rises}
use Rattle.layout.specs.declared.refusal.Refusal.{Refusal}
use Rattle.layout.specs.declared.refusal.Refusal.TheVariants.{OutOfRange}
use Rattle.units.specs.Typed.{price_of, quantity_of}
use Rattle.units.specs.declared.Price.{Price}
use Rattle.units.specs.declared.Quantity.{Quantity}
use Rattle.offers.specs.declared.walk.Findings.{Findings}

abbrev pub blank : Quantity → Bool
blank q = eq_z q.0 (pos 0)

abbrev pub pair_is_out : Price → Price → Pair → Bool
pair_is_out lowest highest x = pair_beyond lowest.0 highest.0 x

abbrev pub no_pair : Pair
no_pair = record { price = pos 0; quantity = pos 0 }

-- A blank pair without a price.
abbrev pub is_empty : Price → Quantity → Bool
is_empty p q = blank q && eq_z p.0 (pos 0)

unfoldable pub all_empty : List Pair → Bool
all_empty [] = true
all_empty (x ∷ l) = is_empty (price_of x.price) (quantity_of x.quantity) && all_empty l

-- Whether a price is above the last one, if there is one.
abbrev pub is_above : Option Price → Price → Bool
is_above None p = true
is_above (Some last) p = lt_z last.0 p.0

-- Whether the prices still rise at a pair that isn't blank: the first is held against none.
unfoldable pub still_rises : Bool → Option Price → Price → Bool
still_rises r last p = r && is_above last p

-- One pair more before the first blank.
unfoldable pub with_filled : Findings → Price → Quantity → Findings
with_filled f p q = record {
  rises = still_rises f.rises f.last p;
  last = Some p;
  total = record { 0 = f.total.0 +ℤ q.0 };
  filled = f.filled + 1;
}

-- Before the first pair.
abbrev pub none_yet : Findings
none_yet = record { rises = true; last = None; total = record { 0 = pos 0 }; filled = 0 }

-- The walk ends at the first pair that 11 refuses, and at the first blank.
unfoldable pub found_from : Price → Price → Findings → List Pair → Result Findings Refusal
found_from lowest highest f [] = Ok f
found_from lowest highest f (x ∷ l) =
    cond (pair_is_out lowest highest x) (Err OutOfRange)
    (cond (blank (quantity_of x.quantity)) (Ok f) (found_from lowest highest (with_filled f (price_of x.price) (quantity_of x.quantity)) l))

abbrev pub found_in : Price → Price → List Pair → Result Findings Refusal
found_in lowest highest l = found_from lowest highest none_yet l

-- 11 to 13 of an offer's pairs, under its service's limits.
unfoldable pub pairs_number : Price → Price → List Pair → ℕ
pairs_number lowest highest l =
    draw (any_pair (pair_is_out lowest highest) l) 11
    then draw (blank_refused l) 12
    then draw (not (rises (non_blank_prices l))) 13

-- "An offer for service 0 uses .. ten pairs; for 1 to 3 .. five pairs; for 4 five pairs."
abbrev pub used_pairs : ℕ → ℕ
used_pairs s = cond (eqb s 0) 10 5

-- Refusal 4 has left the other five empty, among the pairs' words and an offer's.
abbrev pub FiveUsed : ℕ → List ℤ → Type 0
FiveUsed s ws = (s ≡ 0 → ⊥) → any_beyond (pos 0) (pos 0) ws 10 10 ≡ false

abbrev pub UsesFive : ℕ → List ℤ → Type 0
UsesFive s o = FiveUsed s (drop 3 o)
