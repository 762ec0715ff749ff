-- What the code's enums and structs mean in document 01's rules: what a cell holds, the offer in force, an answer's three fields,
-- and the sizes that the book's words show.
use Rattle.std.specs.Prelude.{◌≡◌, Bool, false, List, ℕ, ◌≤◌, ℤ, length, Option, None, Some, Result, Ok, Err}
use Rattle.std.proofs.Math.Option as math
use Rattle.offer_rules.specs.Offer.{Held}
use Rattle.book_rules.specs.Words.{book_size, cell_held, standing_half, variation_half}
use Rattle.book_rules.specs.Force as force
use Rattle.book_rules.specs.Refusals.{equal_words}
use Rattle.book_rules.specs.Book.{facilities_in, services_in}
use Rattle.layout.specs.Refusal.{number}
use Rattle.layout.specs.declared.refusal.Refusal.{Refusal}
use Rattle.cells.specs.declared.places.Half.{Half}
use Rattle.cells.specs.declared.places.Half.TheVariants as half
use Rattle.cells.specs.declared.held.Cell.{Cell}
use Rattle.cells.specs.declared.in_force.InForce.{InForce}
use Rattle.cells.specs.declared.in_force.InForce.TheVariants.{Standing, Variation}
use Rattle.cells.specs.declared.answers.Answer.{Answer}

-- "h 0 standing, 1 variation"
abbrev pub half_number : Half → ℕ
half_number half.Standing = standing_half
half_number half.Variation = variation_half

-- What a cell's words hold.
abbrev pub held_by : Cell → Held
held_by c = cell_held c.words.now

-- What a book's view shows of a cell, where it is stamped.
abbrev pub held_in : Option Cell → math.Option Held
held_in None = math.none
held_in (Some c) = math.some (held_by c)

-- What each case says.
abbrev pub meaning : Option InForce → force.InForce
meaning None = force.no_offer
meaning (Some (Standing c)) = force.standing_offer (held_by c)
meaning (Some (Variation c)) = force.offer_variation (held_by c)

-- 18 "equal to the held one", of an offer in force.
unfoldable pub is_same_offer : force.InForce → List ℤ → Bool
is_same_offer force.no_offer o = false
is_same_offer (force.standing_offer h) o = equal_words h.offer o
is_same_offer (force.offer_variation h) o = equal_words h.offer o

abbrev pub cell_of : InForce → Cell
cell_of (Standing c) = c
cell_of (Variation c) = c

-- F and S as the words hold them, within their limits, and room for all the words they need.
pub record Sized (w : List ℤ) (facilities services : ℕ) : Type 0 where
  pub facilities_held : facilities ≡ facilities_in w
  pub services_held : services ≡ services_in w
  pub facilities_limit : facilities ≤ 64
  pub services_limit : services ≤ 5
  pub room : book_size facilities services ≤ length w

-- The code's answer as the rule's: number, 24 words, sum.
abbrev pub answer_of : Answer → force.Answer
answer_of r = record { number = r.number; words = r.words; sum = r.sum }

-- An answer, or a refusal's number alone.
abbrev pub answered : Result Answer Refusal → force.Answer
answered (Ok answer) = answer_of answer
answered (Err refusal) = force.plain (number refusal)
