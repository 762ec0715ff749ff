-- A chain of tests, each left by `?`, against numbers drawn in order.
use Rattle.std.proofs.Common.{◌≡◌, ◌∙◌, Bool, true, false, ℕ, ◌≤◌, eqb, refl, sym, arith}
use Rattle.offer_rules.specs.Numbers.{draw, ◌then◌}
use Rattle.layout.specs.Refusal.{number}
use Rattle.layout.specs.declared.refusal.Refusal.{Refusal}
use Rattle.layout.specs.declared.refusal.Refusal.TheVariants.{BookUnusable, NotARecord, NotInBook, UnusedByte, NoKind, Clock, Notice, Capability, NotRegistered, Period, OutOfRange, Blank, PricesDontRise, Ramp, Proportion, AboveCapacity, GateClosed, Duplicate, NothingInForce, Opening, Date}

-- A test that was passed leaves the number to those after it.
pub passed_first : (n m : ℕ) → n ≡ 0 → (n then m) ≡ m
unfolding ◌then◌
passed_first n m e = rw e refl

first_wins : (r : Refusal) (m : ℕ) → (number r then m) ≡ number r
unfolding ◌then◌
first_wins BookUnusable m = refl
first_wins NotARecord m = refl
first_wins NotInBook m = refl
first_wins UnusedByte m = refl
first_wins NoKind m = refl
first_wins Clock m = refl
first_wins Notice m = refl
first_wins Capability m = refl
first_wins NotRegistered m = refl
first_wins Period m = refl
first_wins OutOfRange m = refl
first_wins Blank m = refl
first_wins PricesDontRise m = refl
first_wins Ramp m = refl
first_wins Proportion m = refl
first_wins AboveCapacity m = refl
first_wins GateClosed m = refl
first_wins Duplicate m = refl
first_wins NothingInForce m = refl
first_wins Opening m = refl
first_wins Date m = refl

-- One that refuses draws its own.
pub refused_first : (r : Refusal) (n m : ℕ) → number r ≡ n → (n then m) ≡ number r
refused_first r n m e = rw (← e) (first_wins r m)

-- Two tests asked together, and a third, are three tests in order.
pub then_apart : (n m k : ℕ) → ((n then m) then k) ≡ (n then (m then k))
unfolding ◌then◌
then_apart n m k = by (eqb n 0) refl
  where
    by : (t : Bool) → eqb n 0 ≡ t → ((n then m) then k) ≡ (n then (m then k))
    by true e = rw e refl
    by false e = rw (e, e) refl

-- A test draws at most its own number.
pub draw_most : (applies : Bool) (n : ℕ) → draw applies n ≤ n
unfolding draw
draw_most true n = omega arith
draw_most false n = omega arith

-- A refusal's number is drawn.
pub is_drawn : (r : Refusal) → number r ≡ 0 → ⊥
is_drawn r e = let z : ◌≡◌ {A = ℕ} 1 0 = sym (passed_first (number r) 1 e) ∙ refused_first r (number r) 1 refl ∙ e in omega arith
