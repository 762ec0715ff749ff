-- Document 01, "Gate": gate closure, refusal 17.
use Rattle.std.specs.Prelude.{Bool, true, cond, not, ◌&&◌, ◌||◌, List, [], ◌∷◌, ℕ, zero, suc, ◌+◌, ◌-◌, min, leb, ltb, eqb, ℤ, pos}
use Rattle.std.specs.Int.Signed.{le_z}
use Rattle.offer_rules.specs.Numbers.{eq_z, to_nat}
use Rattle.offer_rules.specs.Time.{start_of}
use Rattle.offer_rules.specs.Kinds.{admits}
use Rattle.offer_rules.specs.Offer.{Pair, is_energy}

-- "In the gate a quantity below 0, which only a damaged book holds, counts as 0."
abbrev pub tenths_of : Pair → ℕ
tenths_of x = to_nat x.quantity

unfoldable pub total_tenths : List Pair → ℕ
total_tenths [] = 0
total_tenths (x ∷ l) = tenths_of x + total_tenths l

-- The price of "the n-th tenth of a MW, counted up through the pairs", n from 1.
unfoldable pub price_of_tenth : List Pair → ℕ → ℤ
price_of_tenth [] n = pos 0
price_of_tenth (x ∷ l) n = cond (leb n (tenths_of x)) x.price (price_of_tenth l (n - tenths_of x))

-- "for every n from 1 to the smaller total, the n-th tenth .. has the same price in old and new"
unfoldable pub same_prices_to : ℕ → List Pair → List Pair → Bool
same_prices_to zero old new = true
same_prices_to (suc n) old new = same_prices_to n old new && eq_z (price_of_tenth old (suc n)) (price_of_tenth new (suc n))

unfoldable pub same_prices : List Pair → List Pair → Bool
same_prices old new = same_prices_to (min (total_tenths old) (total_tenths new)) old new

-- The periods of an outage or a notice, first to last.
pub record Window : Type 0 where
  pub first : ℤ
  pub last : ℤ

unfoldable pub covers : Window → ℕ → Bool
covers v p = le_z v.first (pos p) && le_z (pos p) v.last

-- What a reason is held against: the facility's kind and outage window, and the notices 3 energy surplus, 4 shortfall, 5 system status.
pub record Grounds : Type 0 where
  pub kind : ℤ
  pub outage : Window
  pub surplus : Window
  pub shortfall : Window
  pub status : Window

-- What each reason asks. Of the kind, 1 and 2 "generation", 6 "load", 3 to 5 any, a link's too: Kinds, `admits`. Of service s, "3 service 0":
unfoldable pub admits_service : ℕ → ℕ → Bool
admits_service s reason = cond (eqb reason 3) (is_energy s) true

-- Of period p, 2 and 6 "P in the outage window", 3, 4 and 5 "P in that notice":
unfoldable pub period_covered : Grounds → ℕ → ℕ → Bool
period_covered g p reason =
    cond (eqb reason 2) (covers g.outage p)
    (cond (eqb reason 3) (covers g.surplus p)
    (cond (eqb reason 4) (covers g.shortfall p)
    (cond (eqb reason 5) (covers g.status p)
    (cond (eqb reason 6) (covers g.outage p) true))))

-- Of the totals, 3 "new total below old", 4 and 5 "new total above old":
unfoldable pub total_moved : ℕ → ℕ → ℕ → Bool
total_moved reason old new = cond (eqb reason 3) (ltb new old) (cond (eqb reason 4) (ltb old new) (cond (eqb reason 5) (ltb old new) true))

-- "Inside that it needs a reason": one that holds, given the totals of old and new. 0, and what is above 6, admits no kind.
unfoldable pub reason_holds : Grounds → ℕ → ℕ → ℕ → ℕ → ℕ → Bool
reason_holds g s p old new reason = (admits g.kind reason && admits_service s reason) && (period_covered g p reason && total_moved reason old new)

-- An exception to gate closure: a reason that holds, "Besides, for every n from 1 to the smaller total .. the same price in old and new".
unfoldable pub is_excepted : Grounds → ℕ → ℕ → ℕ → List Pair → List Pair → Bool
is_excepted g s p reason old new = reason_holds g s p (total_tenths old) (total_tenths new) reason && same_prices old new

-- "A variation is open when 30·P − now is 65 or more."
abbrev pub gate_minutes : ℕ
gate_minutes = 65

abbrev pub is_open : ℕ → ℕ → Bool
is_open now p = leb (now + gate_minutes) (start_of p)

-- 17, of a variation and of a standing offer over a held one: "The reasons and the tenth-by-tenth price condition are those of a variation" (document 02).
-- Which p, old and new each is judged by is in book_rules, Refusals.
unfoldable pub gate_refuses : ℕ → Grounds → ℕ → ℕ → ℕ → List Pair → List Pair → Bool
gate_refuses now g s p reason old new = not (is_open now p || is_excepted g s p reason old new)
