-- The first tenth that differs, run by run: the first runs of two offers taken together, then what is left of both.
use mathlib.Core.Path.{◌≡◌, refl, sym, ap, ◌∙◌}
use Rattle.std.specs.Option.{is_some}
use mathlib.Core.Bool.{Bool, true, false, cond, not, ◌&&◌, ◌||◌}
use mathlib.Core.List.{List, [], ◌∷◌}
use Prim.Native.Nat.{ℕ, zero, suc, ◌+◌, ◌-◌, ◌<◌, ◌≤◌, min}
use Rattle.std.proofs.Math.Nat.{sub-zero}
use native.Mathlib.Omega.{arith}
use borrow.Author.Tests.{le-leb, lt-leb, leb-true, leb-false, eqb-true, ne_eqb}
use Rattle.units.proofs.Signs.{eqb_sym}
use lib.Dec.{leb, eqb}
use lib.IntN.{ℤ, pos, negsuc}
use Rattle.offer_rules.specs.Numbers.{eq_z}
use Rattle.offer_rules.specs.Offer.{Pair}
use Rattle.offer_rules.specs.Gate.{tenths_of, total_tenths, price_of_tenth, same_prices_to, same_prices}
use Rattle.gate.specs.Differing.{or_else, first_differing_to, smaller_total, first_differing, tenth_or_none}

-- Pairs without the first n tenths of the first.
unfoldable pub cut : ℕ → List Pair → List Pair
cut n [] = []
cut n (x ∷ l) = record { price = x.price; quantity = pos (tenths_of x - n) } ∷ l

-- A tenth's number, counted from n tenths before; 0 stays.
abbrev pub later : ℕ → ℕ → ℕ
later n zero = 0
later n (suc k) = suc (n + k)

-- An offer that begins with n tenths at p.
abbrev pub run : ℤ → ℕ → List Pair → List Pair
run p n l = record { price = p; quantity = pos n } ∷ l

-- ---- prices of a run's tenths, and of those after it

in_run : (p : ℤ) (n : ℕ) (l : List Pair) (m : ℕ) → m < n → price_of_tenth (run p n l) (suc m) ≡ p
unfolding price_of_tenth
in_run p n l m h = rw (le-leb (suc m) n (omega arith))

past_run : (p : ℤ) (n : ℕ) (l : List Pair) (m : ℕ) → price_of_tenth (run p n l) (suc (m + n)) ≡ price_of_tenth (cut 0 l) (suc m)
unfolding price_of_tenth cut
past_run p n [] m = rw (lt-leb (suc (m + n)) n (omega arith))
past_run p n (x ∷ l) m =
    let e : suc (m + n) - n ≡ suc m = omega arith in
    rw (lt-leb (suc (m + n)) n (omega arith), e, sub-zero (tenths_of x))

still_in : (a b m : ℕ) → a ≤ b → leb (suc (m + a)) b ≡ leb (suc m) (b - a)
still_in a b m h = go (leb (suc m) (b - a)) refl
  where
    go : (t : Bool) → leb (suc m) (b - a) ≡ t → leb (suc (m + a)) b ≡ t
    go true e = le-leb (suc (m + a)) b (omega (arith, leb-true (suc m) (b - a) e))
    go false e = lt-leb (suc (m + a)) b (omega (arith, leb-false (suc m) (b - a) e))

shorter_run : (p : ℤ) (b : ℕ) (l : List Pair) (a m : ℕ) → a ≤ b → price_of_tenth (run p b l) (suc (m + a)) ≡ price_of_tenth (run p (b - a) l) (suc m)
unfolding price_of_tenth
shorter_run p b l a m h = let e : suc (m + a) - b ≡ suc m - (b - a) = omega arith in rw (still_in a b m h, e)

total_cut : (l : List Pair) → total_tenths (cut 0 l) ≡ total_tenths l
unfolding total_tenths cut
total_cut [] = refl
total_cut (x ∷ l) = rw (sub-zero (tenths_of x))

price_cut : (l : List Pair) (m : ℕ) → price_of_tenth (cut 0 l) m ≡ price_of_tenth l m
unfolding price_of_tenth cut
price_cut [] m = refl
price_cut (x ∷ l) m = rw (sub-zero (tenths_of x))

-- ---- the first that differs among a tenths and k more

or_none : (n : ℕ) → n ≡ or_else n 0
or_none zero = refl
or_none (suc n) = refl

shift : (x y a k : ℕ) (t : Bool) → or_else (or_else x (later a y)) (cond t 0 (suc (k + a))) ≡ or_else x (later a (or_else y (cond t 0 (suc k))))
shift zero zero a k true = refl
shift zero zero a k false = omega arith
shift zero (suc y) a k t = refl
shift (suc x) y a k t = refl

split : (x y x' y' : List Pair) (a k : ℕ)
    → ((m : ℕ) → price_of_tenth x (suc (m + a)) ≡ price_of_tenth x' (suc m))
    → ((m : ℕ) → price_of_tenth y (suc (m + a)) ≡ price_of_tenth y' (suc m))
    → first_differing_to (k + a) x y ≡ or_else (first_differing_to a x y) (later a (first_differing_to k x' y'))
unfolding first_differing_to
split x y x' y' a zero f g =
    let e : 0 + a ≡ a = omega arith in
    ap (λ (n : ℕ). first_differing_to n x y) e ∙ or_none (first_differing_to a x y)
split x y x' y' a (suc k) f g =
    let e : suc k + a ≡ suc (k + a) = omega arith in
    rw (e, f k, g k, split x y x' y' a k f g)
    (shift (first_differing_to a x y) (first_differing_to k x' y') a k (eq_z (price_of_tenth x' (suc k)) (price_of_tenth y' (suc k))))

one_price : (k : ℕ) (z t : Bool) → eqb k 0 ≡ z → or_else (cond (z || t) 0 1) (cond t 0 (suc k)) ≡ cond t 0 1
one_price k true true e = refl
one_price k true false e = let h = eqb-true k 0 e in omega arith
one_price k false true e = refl
one_price k false false e = refl

-- k tenths, all at p in the one and at q in the other
within : (x y : List Pair) (p q : ℤ) (k : ℕ)
    → ((m : ℕ) → m < k → price_of_tenth x (suc m) ≡ p)
    → ((m : ℕ) → m < k → price_of_tenth y (suc m) ≡ q)
    → first_differing_to k x y ≡ cond (eqb k 0 || eq_z p q) 0 1
unfolding first_differing_to
within x y p q zero f g = refl
within x y p q (suc k) f g =
    rw (ne_eqb (suc k) 0 (λ e. omega arith), f k (omega arith), g k (omega arith), within x y p q k (λ m h. f m (omega arith)) (λ m h. g m (omega arith)))
    (one_price k (eqb k 0) (eq_z p q) refl)

total_past_run : (p q : ℤ) (a b : ℕ) (l k : List Pair) → a ≤ b → smaller_total (run p a l) (run q b k) ≡ smaller_total (cut 0 l) (run q (b - a) k) + a
unfolding smaller_total total_tenths
total_past_run p q a b l k h = rw (total_cut l) (omega arith)

-- The whole of old's first run, of a tenths, and as many of new's.
pub pass_shorter : (p q : ℤ) (a b : ℕ) (l k : List Pair) → a ≤ b
    → first_differing (run p a l) (run q b k) ≡ or_else (cond (eqb a 0 || eq_z p q) 0 1) (later a (first_differing (cut 0 l) (run q (b - a) k)))
unfolding first_differing
pass_shorter p q a b l k h =
    rw (total_past_run p q a b l k h, ← within (run p a l) (run q b k) p q a (λ m. in_run p a l m) (λ m j. in_run q b k m (omega arith)))
    (split (run p a l) (run q b k) (cut 0 l) (run q (b - a) k) a (smaller_total (cut 0 l) (run q (b - a) k)) (past_run p a l) (λ m. shorter_run q b k a m h))

-- ---- old and new change places

eq_z_sym : (x y : ℤ) → eq_z x y ≡ eq_z y x
eq_z_sym (pos a) (pos b) = eqb_sym a b
eq_z_sym (pos a) (negsuc b) = refl
eq_z_sym (negsuc a) (pos b) = refl
eq_z_sym (negsuc a) (negsuc b) = eqb_sym a b

flip_to : (n : ℕ) (x y : List Pair) → first_differing_to n x y ≡ first_differing_to n y x
unfolding first_differing_to
flip_to zero x y = refl
flip_to (suc n) x y = rw (eq_z_sym (price_of_tenth x (suc n)) (price_of_tenth y (suc n)), flip_to n x y)

flip_total : (x y : List Pair) → smaller_total x y ≡ smaller_total y x
unfolding smaller_total
flip_total x y = omega arith

pub flip : (x y : List Pair) → first_differing x y ≡ first_differing y x
unfolding first_differing
flip x y = rw (flip_total x y) (flip_to (smaller_total y x) x y)

pub pass_shorter_new : (p q : ℤ) (a b : ℕ) (l k : List Pair) → b ≤ a
    → first_differing (run p a l) (run q b k) ≡ or_else (cond (eqb b 0 || eq_z p q) 0 1) (later b (first_differing (run p (a - b) l) (cut 0 k)))
pass_shorter_new p q a b l k h =
    flip (run p a l) (run q b k) ∙ pass_shorter q p b a k l h ∙ rw (flip (cut 0 k) (run p (a - b) l), eq_z_sym q p)

-- ---- nothing cut, and nothing left

uncut_to : (n : ℕ) (x y : List Pair) → first_differing_to n (cut 0 x) (cut 0 y) ≡ first_differing_to n x y
unfolding first_differing_to
uncut_to zero x y = refl
uncut_to (suc n) x y = rw (price_cut x (suc n), price_cut y (suc n), uncut_to n x y)

pub uncut : (x y : List Pair) → first_differing (cut 0 x) (cut 0 y) ≡ first_differing x y
unfolding first_differing smaller_total
uncut x y = rw (total_cut x, total_cut y) (uncut_to (min (total_tenths x) (total_tenths y)) x y)

none_to_compare : (n : ℕ) (y : List Pair) → smaller_total (cut n []) y ≡ 0
unfolding smaller_total total_tenths cut
none_to_compare n y = omega arith

pub none_left : (n : ℕ) (y : List Pair) → first_differing (cut n []) y ≡ 0
unfolding first_differing first_differing_to
none_left n y = rw (none_to_compare n y)

-- ---- no tenth differs exactly where all prices are the same

or_same : (x k : ℕ) (t s : Bool) → eqb x 0 ≡ s → eqb (or_else x (cond t 0 (suc k))) 0 ≡ (s && t)
or_same x k true true e = ap (λ (n : ℕ). eqb n 0) (sym (or_none x)) ∙ e
or_same x k true false e = ap (λ (n : ℕ). eqb n 0) (sym (or_none x)) ∙ e
or_same zero k false true e = ne_eqb (suc k) 0 (λ f. omega arith)
or_same zero k false false e = ne_eqb (suc k) 0 (λ f. omega arith)
or_same (suc x) k false true e = ne_eqb (suc x) 0 (λ f. omega arith)
or_same (suc x) k false false e = ne_eqb (suc x) 0 (λ f. omega arith)

none_to : (n : ℕ) (x y : List Pair) → eqb (first_differing_to n x y) 0 ≡ same_prices_to n x y
unfolding first_differing_to same_prices_to
none_to zero x y = refl
none_to (suc n) x y =
    or_same (first_differing_to n x y) n (eq_z (price_of_tenth x (suc n)) (price_of_tenth y (suc n))) (same_prices_to n x y) (none_to n x y)

pub none_differs_is_same : (old new : List Pair) → eqb (first_differing old new) 0 ≡ same_prices old new
unfolding first_differing smaller_total same_prices
none_differs_is_same old new = none_to (min (total_tenths old) (total_tenths new)) old new

pub found_where_prices_differ : (old new : List Pair) → is_some (tenth_or_none (first_differing old new)) ≡ not (same_prices old new)
found_where_prices_differ old new = found (first_differing old new) ∙ ap not (none_differs_is_same old new)
  where
    found : (n : ℕ) → is_some (tenth_or_none n) ≡ not (eqb n 0)
    found zero = refl
    found (suc n) = ap not (sym (ne_eqb (suc n) 0 (λ e. omega arith)))
