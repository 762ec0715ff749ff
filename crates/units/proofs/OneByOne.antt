-- An array made by calls of a closure, each of which gives the element of a list at its place, is that list.
use Rattle.std.proofs.Common.{◌≡◌, ◌∙◌, subst, sym, ℕ, zero, suc, ◌+◌, ◌<◌, List, length, drop, get_or, add-one, arith}
use lib.ListN.{drop_of_length-le}
use lib.Seq.{drop-cons}
use Rattle.std.specs.Fn.{Mut, Called}
use Rattle.std.specs.Array.{IsFromFnResultFrom, IsFromFnResult}

module _ {A F : Type 0} (g : Mut F (ℕ × Unit {0}) A) (f : F) (l : List A) (d : A)
    (gives : (k : ℕ) (y : A) (q : F) → k < length l → Called g f (k, tt) y q → (q ≡ f) × (y ≡ get_or l k d)) where
  made_from : (ys : List A) (i n : ℕ) → i + n ≡ length ys → length ys ≡ length l → IsFromFnResultFrom g f ys i n → drop i ys ≡ drop i l
  made_from ys i zero e same h = drop_of_length-le ys (omega arith) ∙ sym (drop_of_length-le l (omega arith))
  made_from ys i (suc n) e same (q, y, here, call, later) =
      let given = gives i y q (omega arith) call in
      let rest : drop (suc i) ys ≡ drop (suc i) l =
      rw (add-one i) at (made_from ys (i + 1) n (omega arith) same (subst (λ (p : F). IsFromFnResultFrom g p ys (i + 1) n) given.0 later)) in
      drop-cons ys i d (omega arith) ∙ rw (here.1 d, given.1, rest) (sym (drop-cons l i d (omega arith)))

  pub made : (ys : List A) (n : ℕ) → n ≡ length l → IsFromFnResult g f ys n → ys ≡ l
  made ys n e h = made_from ys 0 n (omega (arith, h.long)) (omega (arith, h.long)) h.each
