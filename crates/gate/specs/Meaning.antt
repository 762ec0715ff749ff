-- The declared structs as the rule's records, and words as pairs.
-- "first and last period" of a window are its two words; a facility's kind is its word.
use Rattle.std.specs.Prelude.{List, [], ℤ, Option, None, Some}
use Rattle.offer_rules.specs.Gate as rule
use Rattle.gate.specs.declared.Window.{Window}
use Rattle.gate.specs.declared.Grounds.{Grounds}
use Rattle.gate.specs.declared.lent.Offer.{Offer}
use Rattle.gate.specs.declared.lent.Offer.TheVariants as offer
use Rattle.gate.specs.declared.lent.Held.{Held}

abbrev pub window_of : Window → rule.Window
window_of v = record { first = v.first; last = v.last }

abbrev pub grounds_of : Grounds → rule.Grounds
grounds_of g = record {
  kind = g.kind;
  outage = window_of g.outage;
  surplus = window_of g.surplus;
  shortfall = window_of g.shortfall;
  status = window_of g.status;
}

-- The words of a held offer, if there is one.
abbrev pub words_held : Option Held → List ℤ
words_held None = []
words_held (Some held) = held.words.now

-- The words of an offer that will stand, if one will.
abbrev pub words_of : Option Offer → List ℤ
words_of None = []
words_of (Some (offer.Filed filed)) = filed.words.now
words_of (Some (offer.Held held)) = held.words.now
