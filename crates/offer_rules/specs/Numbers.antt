-- Signed words as numbers, and how a refusal number is drawn.
use Rattle.std.specs.Prelude.{Bool, false, cond, ◌&&◌, ◌||◌, List, ℕ, zero, suc, leb, eqb, ℤ, pos, negsuc, get_or, replicate}
use Rattle.std.specs.Int.Signed.{lt_z}

abbrev pub eq_z : ℤ → ℤ → Bool
eq_z (pos m) (pos n) = eqb m n
eq_z (pos m) (negsuc n) = false
eq_z (negsuc m) (pos n) = false
eq_z (negsuc m) (negsuc n) = eqb m n

-- A number below 0 counts as 0.
abbrev pub to_nat : ℤ → ℕ
to_nat (pos n) = n
to_nat (negsuc n) = 0

-- Word i of some words.
abbrev pub word : List ℤ → ℕ → ℤ
word l i = get_or l i (pos 0)

abbrev pub zeros : ℕ → List ℤ
zeros n = replicate n (pos 0)

-- A number from a to z.
abbrev pub between : ℕ → ℕ → ℕ → Bool
between a z n = leb a n && leb n z

-- Outside lo to hi.
abbrev pub beyond : ℤ → ℤ → ℤ → Bool
beyond lo hi z = lt_z z lo || lt_z hi z

-- Any of n words from word i on outside lo to hi.
unfoldable pub any_beyond : ℤ → ℤ → List ℤ → ℕ → ℕ → Bool
any_beyond lo hi l i zero = false
any_beyond lo hi l i (suc n) = beyond lo hi (word l i) || any_beyond lo hi l (suc i) n

-- "Tests run in rising order; the lowest that applies is returned."
-- The number n where a test applies, else 0; and the first number drawn, where 0 is none.
unfoldable pub draw : Bool → ℕ → ℕ
draw applies n = cond applies n 0

infixr 20 ◌then◌
unfoldable pub ◌then◌ : ℕ → ℕ → ℕ
n then m = cond (eqb n 0) m n
