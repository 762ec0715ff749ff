-- Document 01, "Offer in force": what a state shows to the rules, the offer in force, and answers.
use Rattle.std.specs.Prelude.{cond, List, [], ◌∷◌, ℕ, zero, suc, ◌+◌, ◌/◌, ℤ, pos, ◌+ℤ◌}
use Rattle.std.proofs.Math.Option.{Option, none, some}
use Rattle.offer_rules.specs.Numbers.{zeros}
use Rattle.offer_rules.specs.Time.{slot_of, is_fresh}
use Rattle.offer_rules.specs.Offer.{Pair, pairs, Held, accepted_at, all_blank, sum_of}
use Rattle.offer_rules.specs.Gate.{Window}

-- What the rules read of a state, whether a book's words or a list of accepted calls.
pub record View : Type 0 where
  -- F, S and the six price limits of the opening, and the clock
  pub facilities : ℕ
  pub services : ℕ
  pub limits : List ℤ
  pub now : ℕ
  -- of facility f
  pub capability : ℕ → List ℤ
  pub outage : ℕ → Window
  -- of kind 3, 4 or 5
  pub notice : ℕ → Window
  -- of (f, s, slot), and of (f, s, P)
  pub standing : ℕ → ℕ → ℕ → Option Held
  pub variation : ℕ → ℕ → ℕ → Option Held

-- "all windows 1 to 0 (empty)"
abbrev pub empty_window : Window
empty_window = record { first = pos 1; last = pos 0 }

-- Of an outage, minute m and count n: "Its window is m div 30 + 1 to m div 30 + n."
abbrev pub outage_window : ℕ → ℕ → Window
outage_window m n = record { first = pos (m / 30 + 1); last = pos (m / 30 + n) }

pub data InForce : Type 0 where
  no_offer : InForce
  standing_offer : Held → InForce
  offer_variation : Held → InForce

-- "the variation cell if its stamp is P + 1, else the standing cell if its stamp is 1, else none"
unfoldable pub first_of : Option Held → Option Held → InForce
first_of (some h) standing = offer_variation h
first_of none (some h) = standing_offer h
first_of none none = no_offer

-- "For (f, s, P)"
unfoldable pub in_force : View → ℕ → ℕ → ℕ → InForce
in_force vw f s p = first_of (vw.variation f s p) (vw.standing f s (slot_of p))

-- Document 02, "Taking a variation back": "An accepted variation whose pairs are all blank .. means: no variation."
unfoldable pub variation_made : ℕ → List ℤ → Option Held
variation_made now o = cond (all_blank (pairs o)) none (some (accepted_at now o))

-- "the offer that will stand afterwards" for (f, s, P), once a variation that carries o is filed (Claims, StandsAfterwards)
unfoldable pub will_stand : View → ℕ → ℕ → ℕ → List ℤ → InForce
will_stand vw f s p o = first_of (variation_made vw.now o) (vw.standing f s (slot_of p))

-- "none has total 0"
unfoldable pub pairs_of : InForce → List Pair
pairs_of no_offer = []
pairs_of (standing_offer h) = pairs h.offer
pairs_of (offer_variation h) = pairs h.offer

-- "sum: its ten quantities added"
abbrev pub offered : InForce → ℤ
offered x = sum_of (pairs_of x)

unfoldable pub counted : InForce → ℕ
counted no_offer = 0
counted (standing_offer h) = 1
counted (offer_variation h) = 1

-- The first n facilities' offers in force: how many there are, and their sum.
unfoldable pub count_in_force : View → ℕ → ℕ → ℕ → ℕ
count_in_force vw s p zero = 0
count_in_force vw s p (suc n) = count_in_force vw s p n + counted (in_force vw n s p)

unfoldable pub sum_in_force : View → ℕ → ℕ → ℕ → ℤ
sum_in_force vw s p zero = pos 0
sum_in_force vw s p (suc n) = sum_in_force vw s p n +ℤ offered (in_force vw n s p)

-- "Each call returns a number, 24 words and a sum (signed 64-bit)."
pub record Answer : Type 0 where
  pub number : ℕ
  pub words : List ℤ
  pub sum : ℤ

-- "Otherwise words and sum are zero." So they are beside every refusal.
unfoldable pub plain : ℕ → Answer
plain n = record { number = n; words = zeros 24; sum = pos 0 }

-- Word 0, fresh or not, and the offer's words: "Look-up words 2 and 3 are the ramps" (document 02).
unfoldable pub shown_at : ℕ → ℤ → ℤ → Held → List ℤ
shown_at now fresh settled h = cond (is_fresh now h.minute) fresh settled ∷ h.offer

-- "Look-up: word 0 is 1 (standing) or 2 (variation)"; it is "3 for standing and 4 for variation while now minus that minute is below 5" (document 02).
unfoldable pub found_words : ℕ → InForce → List ℤ
found_words now no_offer = zeros 24
found_words now (standing_offer h) = shown_at now (pos 3) (pos 1) h
found_words now (offer_variation h) = shown_at now (pos 4) (pos 2) h

unfoldable pub found : ℕ → InForce → Answer
found now x = record { number = 0; words = found_words now x; sum = offered x }

-- "Total: word 0 counts facilities with an offer in force, other words zero; sum over them."
unfoldable pub totalled : ℕ → ℤ → Answer
totalled n z = record { number = 0; words = pos n ∷ zeros 23; sum = z }
