-- Numbers drawn in order: alike if each is alike where those before it are not drawn; none drawn if each is not.
use mathlib.Core.Path.{◌≡◌, refl, sym, ◌∙◌, ap}
use mathlib.Core.Bool.{Bool, true, false, cond, ◌&&◌, ◌||◌, false≢true}
use Prim.Native.Nat.{ℕ, ◌<◌}
use native.Mathlib.Omega.{arith}
use lib.Dec.{eqb}
use borrow.Author.Tests.{eqb-true}
use Rattle.offer_rules.specs.Numbers.{draw, ◌then◌}

pub and_left : (a b : Bool) → a && b ≡ true → a ≡ true
and_left true b e = refl
and_left false b e = e

pub and_right : (a b : Bool) → a && b ≡ true → b ≡ true
and_right true b e = e
and_right false b e = absurd (false≢true e)

pub or_left : (a b : Bool) → a || b ≡ false → a ≡ false
or_left true b e = e
or_left false b e = refl

pub or_right : (a b : Bool) → a || b ≡ false → b ≡ false
or_right true b e = absurd (false≢true (sym e))
or_right false b e = e

pub then_eq : (n n' m m' : ℕ) → n ≡ n' → (n ≡ 0 → m ≡ m') → (n then m) ≡ (n' then m')
unfolding ◌then◌
then_eq n n' m m' e h = go (eqb n 0) refl
  where
    go : (b : Bool) → eqb n 0 ≡ b → cond (eqb n 0) m n ≡ cond (eqb n' 0) m' n'
    go true x = rw (← e, x) (h (eqb-true n 0 x))
    go false x = rw (← e, x)

pub then_zero : (n m : ℕ) → (n then m) ≡ 0 → (n ≡ 0) × (m ≡ 0)
unfolding ◌then◌
then_zero n m e = go (eqb n 0) refl e
  where
    go : (b : Bool) → eqb n 0 ≡ b → cond b m n ≡ 0 → (n ≡ 0) × (m ≡ 0)
    go true x y = (eqb-true n 0 x, y)
    go false x y = absurd (false≢true (sym x ∙ ap (λ (k : ℕ). eqb k 0) y))

pub draw_zero : (b : Bool) (n : ℕ) → 0 < n → draw b n ≡ 0 → b ≡ false
unfolding draw
draw_zero true n h e = absurd (omega arith)
draw_zero false n h e = refl

pub then_assoc : (a b c : ℕ) → ((a then b) then c) ≡ (a then (b then c))
unfolding ◌then◌
then_assoc a b c = go (eqb a 0) refl
  where
    go : (t : Bool) → eqb a 0 ≡ t → cond (eqb (cond t b a) 0) c (cond t b a) ≡ cond t (cond (eqb b 0) c b) a
    go true e = refl
    go false e = rw e
