-- Parts of a list that are lent one after another from its start, each to be written whole:
-- what they leave in it.
use mathlib.Core.Path.{◌≡◌, refl, sym, ap, ap₂, ◌∙◌}
use mathlib.Core.List.{List, [], ◌++◌, append_assoc}
use Prim.Native.Nat.{ℕ, ◌+◌, ◌-◌, ◌≤◌}
use native.Mathlib.Omega.{arith}
use lib.ListN.{length, take, drop, length-append}
use lib.Seq.{take_at, drop_at}
use borrow.Rule.Slice.PartMut.{put_mid, Post-is}

module _ {A : Type 0} where
  -- the next part, after a front that is written
  pub lent_next : (front d ys : List A) (a e : ℕ) → length front ≡ a → a + length ys ≡ e
      → put_mid a (e - a) (front ++ drop a d) ys ≡ (front ++ ys) ++ drop e d
  lent_next front d ys a e h k =
      let t : take a (front ++ drop a d) ≡ front = take_at front (drop a d) a h in
      let r : drop a (front ++ drop a d) ≡ drop a d = drop_at front (drop a d) a h in
      let m : a ≤ e = omega arith in
      ap₂ (λ (x y : List A). x ++ (ys ++ drop (e - a) y)) t r
      ∙ ap (λ (y : List A). front ++ (ys ++ y)) (Post-is a e d m)
      ∙ sym (append_assoc front ys (drop e d))

  pub lent_three : (d x y z : List A) (a b e : ℕ) → length x ≡ a → a + length y ≡ b → b + length z ≡ e
      → put_mid b (e - b) (put_mid a (b - a) (put_mid 0 (a - 0) d x) y) z ≡ x ++ (y ++ (z ++ drop e d))
  lent_three d x y z a b e hx hy hz =
      let one : put_mid 0 (a - 0) d x ≡ x ++ drop a d = lent_next [] d x 0 a refl (omega arith) in
      let two : put_mid a (b - a) (x ++ drop a d) y ≡ (x ++ y) ++ drop b d = lent_next x d y a b hx hy in
      let n : length (x ++ y) ≡ b = length-append x y ∙ (omega arith) in
      ap (λ (l : List A). put_mid b (e - b) (put_mid a (b - a) l y) z) one
      ∙ ap (λ (l : List A). put_mid b (e - b) l z) two
      ∙ lent_next (x ++ y) d z b e n hz
      ∙ append_assoc (x ++ y) z (drop e d)
      ∙ append_assoc x y (z ++ drop e d)
