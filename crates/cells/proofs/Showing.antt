-- What a look-up shows of an offer in force, standing or varied.
use Rattle.std.proofs.Common.{◌≡◌, ℕ, ◌∷◌, refl, None, Some}
use Rattle.offer_rules.specs.Numbers.{word}
use Rattle.offer_rules.specs.Offer.{pairs, sum_of}
use Rattle.book_rules.specs.Force.{pairs_of, offered, plain, found, found_words, shown_at}
use Rattle.cells.specs.declared.in_force.InForce.{InForce}
use Rattle.cells.specs.declared.in_force.InForce.TheVariants.{Standing, Variation}
use Rattle.cells.specs.Meaning.{held_by, cell_of, meaning}

-- Word 0, then the offer's words.
pub words_shown : (x : InForce) (clock : ℕ) → found_words clock (meaning (Some x)) ≡ word (found_words clock (meaning (Some x))) 0 ∷ (held_by (cell_of x)).offer
unfolding found_words shown_at
words_shown (Standing c) clock = refl
words_shown (Variation c) clock = refl

pub sum_shown : (x : InForce) → offered (meaning (Some x)) ≡ sum_of (pairs (held_by (cell_of x)).offer)
unfolding pairs_of
sum_shown (Standing c) = refl
sum_shown (Variation c) = refl

-- Nothing in force shows nothing: a look-up then answers zeros, as a refused call does. A call draws 19 before that.
pub nothing_shown : (clock : ℕ) → found clock (meaning None) ≡ plain 0
unfolding found found_words pairs_of sum_of plain
nothing_shown clock = refl
