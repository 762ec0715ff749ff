-- 19 is drawn where nothing is in force, and there alone.
use Rattle.std.proofs.Common.{◌≡◌, refl}
use Rattle.std.specs.Prelude.{Option, None, Some}
use Rattle.std.specs.Option.{ok_or}
use Rattle.book_rules.specs.Force.{counted}
use Rattle.book_rules.specs.Refusals.{force_number}
use Rattle.layout.specs.Refusal.{drawn}
use Rattle.layout.specs.declared.refusal.Refusal.TheVariants.{NothingInForce}
use Rattle.cells.specs.Meaning.{meaning}
use Rattle.cells.specs.declared.in_force.InForce.{InForce}
use Rattle.cells.specs.declared.in_force.InForce.TheVariants.{Standing, Variation}
use Rattle.offer_rules.specs.Numbers.{draw}

pub force_drawn : (o : Option InForce) → drawn (ok_or o NothingInForce) ≡ force_number (meaning o)
unfolding force_number counted draw
force_drawn None = refl
force_drawn (Some (Standing cell)) = refl
force_drawn (Some (Variation cell)) = refl
