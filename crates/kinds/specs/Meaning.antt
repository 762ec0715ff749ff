-- The declared enum and structs as the rule's records.
use Rattle.std.specs.Prelude.{Bool, cond, ℤ, pos, Result, Ok, Err}
use Rattle.offer_rules.specs.Numbers.{eq_z}
use Rattle.offer_rules.specs.Kinds as rule
use Rattle.layout.specs.declared.refusal.Refusal.{Refusal}
use Rattle.layout.specs.declared.refusal.Refusal.TheVariants.{NoKind}
use Rattle.kinds.specs.declared.Kind.{Kind}
use Rattle.kinds.specs.declared.Kind.TheVariants.{Generation, Load, Link}
use Rattle.kinds.specs.declared.Range.{Range}
use Rattle.kinds.specs.declared.Row.{Row}

-- "Facility kinds: 1 generation, 2 load", 3 a link; 5 of any other word.
abbrev pub kind_in : ℤ → Result Kind Refusal
kind_in word =
    cond (eq_z word (pos 1)) (Ok Generation)
    (cond (eq_z word (pos 2)) (Ok Load)
    (cond (eq_z word (pos 3)) (Ok Link) (Err NoKind)))

abbrev pub range_of : Range → rule.Range
range_of r = record { first = r.first; last = r.last }

-- A row, of a kind that is known or not.
abbrev pub row_of : Bool → Row → rule.Kind
row_of known row = record {
  known = known;
  offers = range_of row.offers;
  marks = range_of row.marks;
  reasons = range_of row.reasons;
  longest_outage = row.longest_outage;
  proportion_tested = row.proportion_tested;
}
