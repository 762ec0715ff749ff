-- An offer, and refusals 11 to 16 (document 01, "Who draws which number", the coordinator's); 10 is in Time.
use Rattle.std.specs.Prelude.{◌≡◌, ◌↔◌, Bool, true, false, cond, not, ◌&&◌, ◌||◌, List, [], ◌∷◌, ◌++◌, ℕ, ◌+◌, ltb, eqb, ℤ, pos, ◌+ℤ◌, drop}
use Rattle.std.specs.Int.Signed.{lt_z}
use Rattle.offer_rules.specs.Numbers.{eq_z, word, between, beyond, draw, ◌then◌}
use Rattle.offer_rules.specs.Kinds.{kind_row}

-- A pair of an offer: its price in cents per MWh, its quantity in tenths of a MW.
pub record Pair : Type 0 where
  pub price : ℤ
  pub quantity : ℤ

unfoldable pub pairs_in : List ℤ → List Pair
pairs_in [] = []
pairs_in (p ∷ []) = []
pairs_in (p ∷ (q ∷ l)) = record { price = p; quantity = q } ∷ pairs_in l

-- An offer is 23 words: proportion, ramp up, ramp down, ten pairs. In a filed one, what its service doesn't use is zero (refusal 4).
abbrev pub proportion : List ℤ → ℤ
proportion o = word o 0

abbrev pub ramp_up : List ℤ → ℤ
ramp_up o = word o 1

abbrev pub ramp_down : List ℤ → ℤ
ramp_down o = word o 2

unfoldable pub pairs : List ℤ → List Pair
pairs o = pairs_in (drop 3 o)

-- What a state holds of an offer: its words, and "the minute of its acceptance" (document 02).
pub record Held : Type 0 where
  pub offer : List ℤ
  pub minute : ℤ

abbrev pub accepted_at : ℕ → List ℤ → Held
accepted_at now o = record { offer = o; minute = pos now }

-- "A pair with quantity 0 is blank"; where blanks may stand is refusal 12.
unfoldable pub is_blank : Pair → Bool
is_blank x = eq_z x.quantity (pos 0)

-- Document 02, of a variation "whose pairs are all blank".
unfoldable pub all_blank : List Pair → Bool
all_blank [] = true
all_blank (x ∷ l) = is_blank x && all_blank l

-- The pairs before the first blank, where what is asked of a filed offer "can stop" (document 02).
unfoldable pub filled_part : List Pair → List Pair
filled_part [] = []
filled_part (x ∷ l) = cond (is_blank x) [] (x ∷ filled_part l)

-- Some first pairs of l, after which it has blanks alone.
pub record BlanksAfter (first l : List Pair) : Type 0 where
  pub blanks : List Pair
  pub followed : l ≡ first ++ blanks
  pub only_blanks : all_blank blanks ≡ true

-- "all non-blank pairs come first" (document 02): a filled part followed by blanks.
abbrev pub BlanksLast : List Pair → Type 0
BlanksLast l = BlanksAfter (filled_part l) l

-- The quantities added.
unfoldable pub sum_of : List Pair → ℤ
sum_of [] = pos 0
sum_of (x ∷ l) = x.quantity +ℤ sum_of l

-- ---- standing capability data: W0 to W16 of a facility; services 0 energy, 1 to 3 reserve by class, 4 regulation

abbrev pub kind_of : List ℤ → ℤ
kind_of c = word c 0

abbrev pub is_energy : ℕ → Bool
is_energy s = eqb s 0

abbrev pub is_reserve : ℕ → Bool
is_reserve s = between 1 3 s

abbrev pub max_generation : List ℤ → ℤ
max_generation c = word c 1

abbrev pub max_combined : List ℤ → ℤ
max_combined c = word c 2

-- W3 to W5 reserve maxima by class, W6 regulation maximum.
abbrev pub max_of_service : List ℤ → ℕ → ℤ
max_of_service c s = word c (2 + s)

abbrev pub max_ramp_up : List ℤ → ℤ
max_ramp_up c = word c 7

abbrev pub max_ramp_down : List ℤ → ℤ
max_ramp_down c = word c 8

-- W9 to W11 by class.
abbrev pub max_proportion : List ℤ → ℕ → ℤ
max_proportion c s = word c (8 + s)

-- W12 to W16 are 1 if registered for service 0 to 4.
abbrev pub mark_for : List ℤ → ℕ → ℤ
mark_for c s = word c (12 + s)

-- ---- price limits: lowest and highest energy price, then the highest of services 1 to 4, which start from 0

abbrev pub lowest_price : List ℤ → ℕ → ℤ
lowest_price limits s = cond (is_energy s) (word limits 0) (pos 0)

abbrev pub highest_price : List ℤ → ℕ → ℤ
highest_price limits s = word limits (1 + s)

-- ---- the refusals

unfoldable pub any_pair : (Pair → Bool) → List Pair → Bool
any_pair test [] = false
any_pair test (x ∷ l) = test x || any_pair test l

-- 11 "quantity outside 0–99,999, price outside its limits (services 1–4 from 0)"
abbrev pub pair_beyond : ℤ → ℤ → Pair → Bool
pair_beyond lowest highest x = beyond (pos 0) (pos 99999) x.quantity || beyond lowest highest x.price

unfoldable pub pair_out_of_range : List ℤ → ℕ → Pair → Bool
pair_out_of_range limits s x = pair_beyond (lowest_price limits s) (highest_price limits s) x

-- 11 "reason above 6"
unfoldable pub out_of_range : List ℤ → ℕ → ℕ → List ℤ → Bool
out_of_range limits s reason o = ltb 6 reason || any_pair (pair_out_of_range limits s) (pairs o)

-- 12 "blank pair with a price"
unfoldable pub is_priced_blank : Pair → Bool
is_priced_blank x = is_blank x && not (eq_z x.price (pos 0))

-- 12 "also applies where a blank pair stands before a non-blank one" (document 02)
unfoldable pub blank_before_filled : List Pair → Bool
blank_before_filled [] = false
blank_before_filled (x ∷ l) = (is_blank x && not (all_blank l)) || blank_before_filled l

-- 12 "blank pair with a price", or one that "stands before a non-blank one"
unfoldable pub blank_refused : List Pair → Bool
blank_refused l = any_pair is_priced_blank l || blank_before_filled l

-- What 12 leaves: no blank stands before a non-blank pair exactly where all non-blank pairs come first. A claim; its proof is in proofs/Blanks.
unfoldable pub NoneBeforeFilled : Type 0
NoneBeforeFilled = (l : List Pair) → (blank_before_filled l ≡ false) ↔ BlanksLast l

-- 13 "prices of non-blank pairs not strictly rising"
unfoldable pub non_blank_prices : List Pair → List ℤ
non_blank_prices [] = []
non_blank_prices (x ∷ l) = cond (is_blank x) (non_blank_prices l) (x.price ∷ non_blank_prices l)

unfoldable pub rises : List ℤ → Bool
rises [] = true
rises (x ∷ []) = true
rises (x ∷ (y ∷ l)) = lt_z x y && rises (y ∷ l)

-- 14 "energy ramp outside 0 to its maximum"; "also covers a ramp above 9,999" (document 02)
abbrev pub most_ramp : ℤ
most_ramp = pos 9999

unfoldable pub ramp_beyond : ℤ → ℤ → Bool
ramp_beyond maximum ramp = beyond (pos 0) maximum ramp || lt_z most_ramp ramp

unfoldable pub ramp_refused : List ℤ → ℕ → List ℤ → Bool
ramp_refused c s o = is_energy s && (ramp_beyond (max_ramp_up c) (ramp_up o) || ramp_beyond (max_ramp_down c) (ramp_down o))

-- 15 "generation reserve: proportion 0 or above its maximum; load isn't tested"
unfoldable pub proportion_refused : List ℤ → ℕ → List ℤ → Bool
proportion_refused c s o = ((kind_row (kind_of c)).proportion_tested && is_reserve s) && (eq_z (proportion o) (pos 0) || lt_z (max_proportion c s) (proportion o))

-- 16 "total above generation or combined maximum (energy), or above the service's own"
unfoldable pub above_capacity : List ℤ → ℕ → ℤ → Bool
above_capacity c s total = cond (is_energy s) (lt_z (max_generation c) total || lt_z (max_combined c) total) (lt_z (max_of_service c s) total)

-- 11 to 16, of an offer o for service s by a facility of capability c
unfoldable pub offer_number : List ℤ → List ℤ → ℕ → ℕ → List ℤ → ℕ
offer_number limits c s reason o =
    draw (out_of_range limits s reason o) 11
    then draw (blank_refused (pairs o)) 12
    then draw (not (rises (non_blank_prices (pairs o)))) 13
    then draw (ramp_refused c s o) 14
    then draw (proportion_refused c s o) 15
    then draw (above_capacity c s (sum_of (pairs o))) 16

-- "The test of one offer's pairs then promises more" (document 02): of an offer that draws none of 11 to 16, or one above 12. A claim; its proof is in proofs/Blanks.
unfoldable pub TestedBlanksLast : Type 0
TestedBlanksLast = (limits c : List ℤ) (s reason : ℕ) (o : List ℤ)
    → let n = offer_number limits c s reason o in
    between 11 12 n ≡ false → BlanksLast (pairs o)
