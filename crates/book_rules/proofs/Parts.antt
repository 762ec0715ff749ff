-- What putting words into a book does to the reads of its words and parts.
use mathlib.Core.Path.{◌≡◌, refl, ◌∙◌, ap}
use mathlib.Core.List.{List, [], ◌∷◌, ◌++◌}
use Prim.Native.Nat.{ℕ, zero, suc, ◌+◌, ◌-◌, ◌≤◌, ◌<◌}
use native.Mathlib.Omega.{arith}
use native.Mathlib.Decide.{dec_le}
use lib.IntN.{ℤ, pos}
use lib.ListN.{length, take, drop, length-append, length-take, length-drop, get_or-append}
use lib.Seq.{take_at, drop_at, take-append-le, drop-append-le, drop-append-add, length-take-le, take-take, drop-drop, get_or-take, get_or-drop}
use Rattle.offer_rules.specs.Numbers.{word}
use Rattle.book_rules.specs.Words.{part, put}

-- A part of the front is a part of the whole.
part_take : (b n a : ℕ) (w : List ℤ) → b + n ≤ a → take n (drop b (take a w)) ≡ take n (drop b w)
part_take zero n a w h = take-take n a w (omega arith)
part_take (suc b) n zero w h = absurd (omega arith)
part_take (suc b) n (suc a) [] h = refl
part_take (suc b) n (suc a) (x ∷ w) h = part_take b n a w (omega arith)

-- A word of a part.
pub word_of_part : (a n i : ℕ) (w : List ℤ) → i < n → word (part a n w) i ≡ word w (a + i)
unfolding part
word_of_part a n i w h = get_or-take n (drop a w) i (pos 0) h ∙ get_or-drop a w i (pos 0)

module _ (w : List ℤ) (a : ℕ) (c : List ℤ) (fits : a + length c ≤ length w) where
  front : length (take a w) ≡ a
  front = length-take-le a w (omega arith)

  pub length_put : length (put w a c) ≡ length w
  unfolding put
  length_put = simp (length-append, length-take, length-drop) (omega arith)

  pub part_put : (n : ℕ) → length c ≡ n → part a n (put w a c) ≡ c
  unfolding put part
  part_put n e = ap (take n) (drop_at (take a w) (c ++ drop (a + length c) w) a front) ∙ take_at c (drop (a + length c) w) n e

  part_before : (b n : ℕ) → b + n ≤ a → part b n (put w a c) ≡ part b n w
  unfolding put part
  part_before b n k =
      ap (take n) (drop-append-le b (take a w) (c ++ drop (a + length c) w) (omega (arith, front)))
      ∙ take-append-le n (drop b (take a w)) (c ++ drop (a + length c) w) (simp length-drop (omega (arith, front)))
      ∙ part_take b n a w k

  part_after : (b n : ℕ) → a + length c ≤ b → part b n (put w a c) ≡ part b n w
  unfolding put part
  part_after b n k =
      let j = b - (a + length c) in
      let t = drop (a + length c) w in
      let p : b ≡ length (take a w) + (length c + j) = omega (arith, front) in
      let q : a + length c + j ≡ b = omega arith in
      ap (take n)
      (ap (λ (x : ℕ). drop x (take a w ++ (c ++ t))) p
      ∙ drop-append-add (take a w) (c ++ t) (length c + j)
      ∙ drop-append-add c t j
      ∙ drop-drop j (a + length c) w
      ∙ ap (λ (x : ℕ). drop x w) q)

  -- A part that shares no word with what was put.
  pub part_apart : (b n : ℕ) → (a < b + n → b < a + length c → ⊥) → part b n (put w a c) ≡ part b n w
  part_apart b n h = go (dec_le (b + n) a) (dec_le (a + length c) b)
    where
      go : Dec (b + n ≤ a) → Dec (a + length c ≤ b) → part b n (put w a c) ≡ part b n w
      go (yes x) d = part_before b n x
      go (no x) (yes y) = part_after b n y
      go (no x) (no y) = absurd (h (omega arith) (omega arith))

  pub word_before : (i : ℕ) → i < a → word (put w a c) i ≡ word w i
  unfolding put
  word_before i k = get_or-append (take a w) (c ++ drop (a + length c) w) (pos 0) i (omega (arith, front)) ∙ get_or-take a w i (pos 0) k
