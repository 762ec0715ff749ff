-- A list filled from the front, over any element.
use mathlib.Core.Path.{◌≡◌, sym, ap, ◌∙◌}
use mathlib.Core.List.{List, [], ◌∷◌, ◌++◌, append-nil}
use Prim.Native.Nat.{ℕ, suc, ◌+◌, ◌<◌}
use native.Mathlib.Numerals.{add-one}
use native.Mathlib.Omega.{arith}
use lib.ListN.{length, drop, get_or, set, length-drop, drop_of_length-le}
use lib.Seq.{drop-cons, set_at, append_snoc, take_at, drop_at, sets, sets-eq}
use borrow.Rule.Slice.PartMut.{put_mid}

module _ {A : Type 0} where
  -- As a loop goes that writes over d: a turn, where x is written before what d had.
  pub written_more : (x d : List A) (i : ℕ) (v : A) → length x ≡ i → i < length d → set (x ++ drop i d) i v ≡ (x ++ (v ∷ [])) ++ drop (i + 1) d
  written_more x d i v e h =
      ap (λ (r : List A). set (x ++ r) i v) (drop-cons d i v h)
      ∙ set_at x (get_or d i v) (drop (suc i) d) v i e
      ∙ sym (append_snoc x v (drop (suc i) d))
      ∙ rw add-one

  -- The first i by themselves, and the n others at once.
  pub first_and_rest : (d x y : List A) (i n : ℕ) → length x ≡ i → length d ≡ i + n → put_mid i n (sets d 0 x) y ≡ x ++ y
  first_and_rest d x y i n e h =
      let here : 0 + length x ≡ i = omega arith in
      let stored : sets d 0 x ≡ x ++ drop i d = sets-eq x d 0 (omega arith) ∙ ap (λ (k : ℕ). x ++ drop k d) here in
      let past : drop n (drop i d) ≡ [] = drop_of_length-le (drop i d) (omega (arith, length-drop i d)) in
      rw (stored, take_at x (drop i d) i e, drop_at x (drop i d) i e, past, append-nil y)
