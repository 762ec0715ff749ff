-- One test alone, left by `?`: what it draws tells whether it applies.
use mathlib.Core.Path.{◌≡◌, refl}
use mathlib.Core.Bool.{Bool, true, false}
use Prim.Native.Nat.{ℕ}
use Rattle.offer_rules.specs.Numbers.{draw}
use Rattle.layout.specs.Refusal.{number}
use Rattle.layout.specs.declared.refusal.Refusal.{Refusal}
use Rattle.layout.proofs.Chains.{is_drawn}

pub one_refused : (applies : Bool) (n : ℕ) (r : Refusal) → number r ≡ draw applies n → (applies ≡ true) × (number r ≡ n)
unfolding draw
one_refused true n r e = (refl, e)
one_refused false n r e = absurd (is_drawn r e)
