-- An exception to gate closure, once it is known whether the reason admits the filing: then the totals and the prices decide.
use mathlib.Core.Path.{◌≡◌, ◌∙◌}
use mathlib.Core.Bool.{Bool, true, false, ◌&&◌, and_assoc}
use mathlib.Core.List.{List}
use Prim.Native.Nat.{ℕ}
use Rattle.offer_rules.specs.Kinds.{admits}
use Rattle.offer_rules.specs.Offer.{Pair, BlanksAfter}
use Rattle.offer_rules.specs.Gate.{Grounds, total_tenths, same_prices, admits_service, period_covered, total_moved, reason_holds, is_excepted}
use Rattle.offer_rules.proofs.Blanks.{excepted_by_first}

pub by_totals_and_prices : (g : Grounds) (s p reason : ℕ) (old new : List Pair)
    → (t : Bool) → ((admits g.kind reason && admits_service s reason) && period_covered g p reason) ≡ t
    → is_excepted g s p reason old new ≡ (t && (total_moved reason (total_tenths old) (total_tenths new) && same_prices old new))
unfolding is_excepted reason_holds
by_totals_and_prices g s p reason old new t e =
    rw (← e) (simp and_assoc)

pub not_admitted : (g : Grounds) (s p reason : ℕ) (old new : List Pair)
    → ((admits g.kind reason && admits_service s reason) && period_covered g p reason) ≡ false
    → is_excepted g s p reason old new ≡ false
not_admitted g s p reason old new e = by_totals_and_prices g s p reason old new false e

-- The pairs that are walked stand for all of old's and of new's.
pub decided : (g : Grounds) (s p reason : ℕ) {before after old new : List Pair} → BlanksAfter before old → BlanksAfter after new
    → ((admits g.kind reason && admits_service s reason) && period_covered g p reason) ≡ true
    → is_excepted g s p reason old new ≡ (total_moved reason (total_tenths before) (total_tenths after) && same_prices before after)
decided g s p reason {before} {after} b a e =
    excepted_by_first b a g s p reason ∙ by_totals_and_prices g s p reason before after true e
