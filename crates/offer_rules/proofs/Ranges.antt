-- Numbers from one to another, words that are not outside two, and words that are equal.
use mathlib.Core.Path.{◌≡◌, refl, ap}
use mathlib.Core.Bool.{Bool, true, false, ◌&&◌, true≢false, false≢true}
use Prim.Native.Nat.{ℕ, ◌≤◌}
use lib.Dec.{leb, ltb}
use lib.IntN.{ℤ, pos, negsuc}
use borrow.Author.Tests.{eqb-true, leb-true, ltb-false, le-leb}
use Rattle.offer_rules.specs.Numbers.{eq_z, to_nat, between, beyond}
use Rattle.offer_rules.proofs.Drawn.{and_left, and_right, or_left, or_right}

pub and_holds : (a b : Bool) → a ≡ true → b ≡ true → (a && b) ≡ true
and_holds a b e f = rw (e, f)

pub between_low : (lo hi n : ℕ) → between lo hi n ≡ true → lo ≤ n
between_low lo hi n e = leb-true lo n (and_left (leb lo n) (leb n hi) e)

pub between_high : (lo hi n : ℕ) → between lo hi n ≡ true → n ≤ hi
between_high lo hi n e = leb-true n hi (and_right (leb lo n) (leb n hi) e)

pub is_between : (lo hi n : ℕ) → lo ≤ n → n ≤ hi → between lo hi n ≡ true
is_between lo hi n h k = and_holds (leb lo n) (leb n hi) (le-leb lo n h) (le-leb n hi k)

-- A number that is not beyond two others lies between them.
pub within : (lo hi a : ℕ) → beyond (pos lo) (pos hi) (pos a) ≡ false → (lo ≤ a) × (a ≤ hi)
within lo hi a e = (ltb-false a lo (or_left (ltb a lo) (ltb hi a) e), ltb-false hi a (or_right (ltb a lo) (ltb hi a) e))

-- A word that is not outside 0 to n is a count up to n.
pub count_within : (n : ℕ) (z : ℤ) → beyond (pos 0) (pos n) z ≡ false → (z ≡ pos (to_nat z)) × (to_nat z ≤ n)
count_within n (pos m) e = (refl, (within 0 n m e).1)
count_within n (negsuc m) e = absurd (true≢false e)

-- Words that are told equal are one.
pub same_word : (x y : ℤ) → eq_z x y ≡ true → x ≡ y
same_word (pos m) (pos n) e = ap pos (eqb-true m n e)
same_word (pos m) (negsuc n) e = absurd (false≢true e)
same_word (negsuc m) (pos n) e = absurd (false≢true e)
same_word (negsuc m) (negsuc n) e = ap negsuc (eqb-true m n e)
