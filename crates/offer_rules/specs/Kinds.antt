-- Document 01, "Facility kinds: 1 generation, 2 load"; document 02, "A cross-border link becomes facility kind 3".
-- One row for each kind: 5, 7, 8, 9, 15 and 17 read it, and nothing else tells kinds apart.
use Rattle.std.specs.Prelude.{Bool, true, false, cond, ℕ, ℤ, pos}
use Rattle.offer_rules.specs.Numbers.{eq_z, between}

-- From first to last.
pub record Range : Type 0 where
  pub first : ℕ
  pub last : ℕ

infix 90 ◌to◌
abbrev pub ◌to◌ : ℕ → ℕ → Range
a to z = record { first = a; last = z }

abbrev pub is_in : Range → ℕ → Bool
is_in r n = between r.first r.last n

pub record Kind : Type 0 where
  -- 5 and 8: a facility may be of this kind
  pub known : Bool
  -- 9: the services that it may offer, where it is registered for them
  pub offers : Range
  -- 8: the services for which it may be registered
  pub marks : Range
  -- 17: the reasons that admit it
  pub reasons : Range
  -- 7: the most periods of its outage; where that is 0, each count is outside 1 to 0
  pub longest_outage : ℤ
  -- 15: its reserve proportion is tested
  pub proportion_tested : Bool

unfoldable pub kind_row : ℤ → Kind
kind_row kind =
    -- generation
    cond (eq_z kind (pos 1)) (record { known = true; offers = 0 to 4; marks = 0 to 4; reasons = 1 to 5; longest_outage = pos 3; proportion_tested = true })
    -- load: not "with mark 0 or 4 set"; its offers go by its marks alone
    (cond (eq_z kind (pos 2)) (record { known = true; offers = 0 to 4; marks = 1 to 3; reasons = 3 to 6; longest_outage = pos 48; proportion_tested = false })
    -- link, the market's import registered facility: "It offers energy only"; "Reasons 3, 4 and 5 are open to it; 1, 2 and 6 are not"; "An outage call for it is refused"; "mark 0 only"
    (cond (eq_z kind (pos 3)) (record { known = true; offers = 0 to 0; marks = 0 to 0; reasons = 3 to 5; longest_outage = pos 0; proportion_tested = false })
    -- no kind: what the papers ask of any kind. Calls 3, 4, 5 and 8 draw 5 of it, the lower number, and in call 2 the kind itself is 8, whatever the marks.
    (record { known = false; offers = 0 to 4; marks = 1 to 0; reasons = 3 to 5; longest_outage = pos 3; proportion_tested = false })))

abbrev pub is_kind : ℤ → Bool
is_kind kind = (kind_row kind).known

abbrev pub may_offer : ℤ → ℕ → Bool
may_offer kind s = is_in (kind_row kind).offers s

abbrev pub may_be_marked : ℤ → ℕ → Bool
may_be_marked kind s = is_in (kind_row kind).marks s

abbrev pub admits : ℤ → ℕ → Bool
admits kind reason = is_in (kind_row kind).reasons reason
