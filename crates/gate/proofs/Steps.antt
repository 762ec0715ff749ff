-- A step of the merge keeps the answer that it comes to.
use mathlib.Core.Path.{◌≡◌, refl, sym, ap, ◌∙◌}
use mathlib.Core.Bool.{Bool, true, false, cond, not, ◌&&◌, ◌||◌, and-false, not-not}
use mathlib.Core.List.{List, [], ◌∷◌}
use Prim.Native.Nat.{ℕ, zero, suc, ◌+◌, ◌-◌, ◌≤◌, ◌<◌}
use native.Mathlib.Omega.{arith}
use borrow.Author.Tests.{leb-true, leb-false, lt-ltb, ne_eqb}
use lib.Dec.{ltb, leb, eqb}
use lib.IntN.{ℤ}
use lib.ListN.{length, get_or, drop}
use Rattle.offer_rules.specs.Numbers.{eq_z}
use Rattle.offer_rules.specs.Offer.{Pair}
use Rattle.offer_rules.specs.Gate.{tenths_of}
use Rattle.units.specs.Typed.{typed, pair_of, pairs_of}
use Rattle.gate.specs.Differing.{or_else, first_differing}
use Rattle.gate.proofs.Runs.{cut, later, pass_shorter, pass_shorter_new, flip, uncut, none_left}

-- The answer that a merge comes to, where n tenths are passed, and of old and new there are left these pairs without i and j tenths.
unfoldable pub first_from : List Pair → ℕ → List Pair → ℕ → ℕ → ℕ
first_from old i new j n = later n (first_differing (cut i old) (cut j new))

later_from_none : (n : ℕ) → later 0 n ≡ n
later_from_none zero = refl
later_from_none (suc n) = omega arith

later_twice : (n a k : ℕ) → later (n + a) k ≡ later n (later a k)
later_twice n a zero = refl
later_twice n a (suc k) = omega arith

pub start_is_whole : (old new : List Pair) → first_from old 0 new 0 0 ≡ first_differing old new
unfolding first_from
start_is_whole old new = later_from_none (first_differing (cut 0 old) (cut 0 new)) ∙ uncut old new

pub old_at_end : (i : ℕ) (new : List Pair) (j n : ℕ) → first_from [] i new j n ≡ 0
unfolding first_from
old_at_end i new j n = rw (none_left i (cut j new))

pub new_at_end : (old : List Pair) (i j n : ℕ) → first_from old i [] j n ≡ 0
unfolding first_from
new_at_end old i j n = rw (flip (cut i old) (cut j []), none_left j (cut i old))

-- Two pairs differ where both have tenths left, a and b, and not one price: a blank pair's price is never compared.
abbrev pub differ : ℕ → ℕ → Bool → Bool
differ a b same = (ltb 0 a && ltb 0 b) && not same

-- What the test of two pairs says of the one with fewer tenths left.
differ_old : (a b : ℕ) (same : Bool) → a ≤ b → (eqb a 0 || same) ≡ not (differ a b same)
differ_old zero b same h = refl
differ_old (suc a) b same h =
    rw (ne_eqb (suc a) 0 (λ q. omega arith), lt-ltb 0 (suc a) (omega arith), lt-ltb 0 b (omega arith)) (sym (not-not same))

differ_new : (a b : ℕ) (same : Bool) → b ≤ a → (eqb b 0 || same) ≡ not (differ a b same)
differ_new a zero same h = rw (and-false (ltb 0 a))
differ_new a (suc b) same h =
    rw (ne_eqb (suc b) 0 (λ q. omega arith), lt-ltb 0 (suc b) (omega arith), lt-ltb 0 a (omega arith)) (sym (not-not same))

module _ (x y : Pair) (old new : List Pair) (i j n : ℕ) where
  abbrev a : ℕ
  a = tenths_of x - i

  abbrev b : ℕ
  b = tenths_of y - j

  abbrev same : Bool
  same = eq_z x.price y.price

  old_passed : a ≤ b → first_from (x ∷ old) i (y ∷ new) j n ≡ later n (or_else (cond (eqb a 0 || same) 0 1) (later a (first_differing (cut 0 old) (cut (j + a) (y ∷ new)))))
  unfolding first_from cut
  old_passed h =
      let e : tenths_of y - (j + a) ≡ b - a = omega arith in
      rw (pass_shorter x.price y.price a b old new h, e)

  new_passed : b ≤ a → first_from (x ∷ old) i (y ∷ new) j n ≡ later n (or_else (cond (eqb b 0 || same) 0 1) (later b (first_differing (cut (i + b) (x ∷ old)) (cut 0 new))))
  unfolding first_from cut
  new_passed h =
      let e : tenths_of x - (i + b) ≡ a - b = omega arith in
      rw (pass_shorter_new x.price y.price a b old new h, e)

  pub pass_old : a ≤ b → differ a b same ≡ false → first_from old 0 (y ∷ new) (j + a) (n + a) ≡ first_from (x ∷ old) i (y ∷ new) j n
  unfolding first_from
  pass_old h f = later_twice n a (first_differing (cut 0 old) (cut (j + a) (y ∷ new))) ∙ sym (old_passed h ∙ rw (differ_old a b same h, f))

  pub pass_new : b ≤ a → differ a b same ≡ false → first_from (x ∷ old) (i + b) new 0 (n + b) ≡ first_from (x ∷ old) i (y ∷ new) j n
  unfolding first_from
  pass_new h f = later_twice n b (first_differing (cut (i + b) (x ∷ old)) (cut 0 new)) ∙ sym (new_passed h ∙ rw (differ_new a b same h, f))

  pub difference_is_answer : differ a b same ≡ true → first_from (x ∷ old) i (y ∷ new) j n ≡ n + 1
  difference_is_answer f = go (leb a b) refl
    where
      go : (t : Bool) → leb a b ≡ t → first_from (x ∷ old) i (y ∷ new) j n ≡ n + 1
      go true e = let h = leb-true a b e in old_passed h ∙ rw (differ_old a b same h, f) (omega arith)
      go false e = let h : b ≤ a = omega (arith, leb-false a b e) in new_passed h ∙ rw (differ_new a b same h, f) (omega arith)

-- A pair of new of which none is left may be passed before old's.
new_spent : (old : List Pair) (y : Pair) (new : List Pair) (i j n : ℕ) → tenths_of y - j ≡ 0 → first_from old i new 0 n ≡ first_from old i (y ∷ new) j n
new_spent [] y new i j n z = old_at_end i new 0 n ∙ sym (old_at_end i (y ∷ new) j n)
new_spent (x ∷ old) y new i j n z =
    let e : i + (tenths_of y - j) ≡ i = omega (arith, z) in
    let f : n + (tenths_of y - j) ≡ n = omega (arith, z) in
    rw (e, f) at (pass_new x y old new i j n (omega (arith, z)) (rw z (ap (λ (t : Bool). t && not (eq_z x.price y.price)) (and-false (ltb 0 (tenths_of x - i))))))

pub pass_both : (x y : Pair) (old new : List Pair) (i j n : ℕ) → tenths_of x - i ≡ tenths_of y - j → differ (tenths_of x - i) (tenths_of y - j) (eq_z x.price y.price) ≡ false
    → first_from old 0 new 0 (n + (tenths_of x - i)) ≡ first_from (x ∷ old) i (y ∷ new) j n
pass_both x y old new i j n e f =
    new_spent old y new 0 (j + (tenths_of x - i)) (n + (tenths_of x - i)) (omega arith)
    ∙ pass_old x y old new i j n (omega arith) f

-- ---- the same of pairs lent as their words

abbrev pub first_of : List (List ℤ) → Pair
first_of l = pair_of (typed (get_or l 0 []))

from_first : (l : List (List ℤ)) → 0 < length l → pairs_of l ≡ first_of l ∷ pairs_of (drop 1 l)
from_first [] h = absurd (omega arith)
from_first (x ∷ l) h = refl

module _ (old new : List (List ℤ)) (i j n : ℕ) where
  abbrev pub left_old : ℕ
  left_old = tenths_of (first_of old) - i

  abbrev pub left_new : ℕ
  left_new = tenths_of (first_of new) - j

  abbrev pub first_differ : Bool
  first_differ = differ left_old left_new (eq_z (first_of old).price (first_of new).price)

  abbrev pub answer : ℕ
  answer = first_from (pairs_of old) i (pairs_of new) j n

  module _ (ho : 0 < length old) (hn : 0 < length new) where
    pub differing : first_differ ≡ true → answer ≡ n + 1
    differing f =
        rw (from_first old ho, from_first new hn)
        (difference_is_answer (first_of old) (first_of new) (pairs_of (drop 1 old)) (pairs_of (drop 1 new)) i j n f)

    module _ (f : first_differ ≡ false) where
      pub past_old : left_old ≤ left_new → first_from (pairs_of (drop 1 old)) 0 (pairs_of new) (j + left_old) (n + left_old) ≡ answer
      past_old h =
          rw (from_first old ho, from_first new hn)
          (pass_old (first_of old) (first_of new) (pairs_of (drop 1 old)) (pairs_of (drop 1 new)) i j n h f)

      pub past_new : left_new ≤ left_old → first_from (pairs_of old) (i + left_new) (pairs_of (drop 1 new)) 0 (n + left_new) ≡ answer
      past_new h =
          rw (from_first old ho, from_first new hn)
          (pass_new (first_of old) (first_of new) (pairs_of (drop 1 old)) (pairs_of (drop 1 new)) i j n h f)

      pub past_both : left_old ≡ left_new → first_from (pairs_of (drop 1 old)) 0 (pairs_of (drop 1 new)) 0 (n + left_old) ≡ answer
      past_both e =
          rw (from_first old ho, from_first new hn)
          (pass_both (first_of old) (first_of new) (pairs_of (drop 1 old)) (pairs_of (drop 1 new)) i j n e f)

pub old_ended : (old new : List (List ℤ)) (i j n : ℕ) → length old < 1 → answer old new i j n ≡ 0
old_ended [] new i j n h = old_at_end i (pairs_of new) j n
old_ended (x ∷ old) new i j n h = absurd (omega arith)

pub new_ended : (old new : List (List ℤ)) (i j n : ℕ) → length new < 1 → answer old new i j n ≡ 0
new_ended old [] i j n h = new_at_end (pairs_of old) i j n
new_ended old (y ∷ new) i j n h = absurd (omega arith)
