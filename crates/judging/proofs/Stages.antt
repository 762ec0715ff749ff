-- What an offer is admitted by, and the gate before closure and from it on.
use Rattle.std.proofs.Common.{◌≡◌, sym, Bool, true, false, not, ℕ, ℤ, List}
use Rattle.offer_rules.specs.Numbers.{draw, ◌then◌}
use Rattle.offer_rules.specs.Offer.{Pair}
use Rattle.offer_rules.specs.Gate.{Grounds, is_excepted, is_open, gate_refuses}
use Rattle.layout.proofs.Chains.{then_apart}
use Rattle.book_rules.specs.Refusals.{facility_number, registration_number, gate_number, admission_number}

-- 5 and 9 of an offer are tested together, then 10.
pub admission_parts : (c : List ℤ) (s : ℕ) (refused : Bool) → admission_number c s refused ≡ ((facility_number c then registration_number c s) then draw refused 10)
unfolding admission_number
admission_parts c s refused = sym (then_apart (facility_number c) (registration_number c s) (draw refused 10))

-- From closure on an offer draws 17 where it isn't excepted.
pub shut_draws : (now : ℕ) (g : Grounds) (s p reason : ℕ) (old new : List Pair) → is_open now p ≡ false → gate_number now g s p reason old new ≡ draw (not (is_excepted g s p reason old new)) 17
unfolding gate_number gate_refuses
shut_draws now g s p reason old new h = rw h

-- Before closure no offer draws 17, whatever old and new are.
pub open_draws_none : (now : ℕ) (g : Grounds) (s p reason : ℕ) (old new : List Pair) → is_open now p ≡ true → gate_number now g s p reason old new ≡ 0
unfolding gate_number gate_refuses draw
open_draws_none now g s p reason old new h = rw h
