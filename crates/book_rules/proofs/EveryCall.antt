-- A book and a list that show the same answer every record alike, and show the same after it; so for every list of records.
use mathlib.Core.Path.{◌≡◌, refl, sym, ◌∙◌, ap, ap₂}
use mathlib.Core.Bool.{Bool, true, false, cond, true≢false, false≢true}
use mathlib.Core.List.{List, [], ◌∷◌}
use Prim.Native.Nat.{ℕ, ◌≤◌}
use native.Mathlib.Omega.{arith}
use lib.Dec.{eqb}
use lib.IntN.{ℤ, pos}
use lib.ListN.{length}
use borrow.Author.Tests.{eqb-true, le-leb}
use Rattle.offer_rules.specs.Numbers.{to_nat}
use Rattle.offer_rules.proofs.Drawn.{then_eq, then_zero}
use Rattle.book_rules.specs.Record.{record_number, sizes_ok}
use Rattle.book_rules.specs.Words.{book_size, is_book, opening_words}
use Rattle.book_rules.specs.Force.{Answer, plain}
use Rattle.book_rules.specs.Refusals.{judge, number, answer, after}
use Rattle.book_rules.specs.Book.{book_view, book_accept, book_answer, book_after, book_answers}
use Rattle.book_rules.specs.ListMachine.{list_view, list_accept, list_answer, list_after, list_answers}
use Rattle.book_rules.specs.Claims.{EveryList}
use Rattle.book_rules.proofs.Calls.{Named, named}
use Rattle.book_rules.proofs.Rules.{judge_same, reply_same}
use Rattle.book_rules.proofs.Same.{Same, Everyone, clock_is, agree, accept_same}
use Rattle.book_rules.proofs.Opening.{opening_same, sizes_opened}

-- The same test on both sides: related where it passes and where it fails.
pub cond_rel : {A B : Type 0} (R : A → B → Type 0) (b b' : Bool) {p q : A} {p' q' : B} → b ≡ b' → (b ≡ true → R p p') → (b ≡ false → R q q') → R (cond b p q) (cond b' p' q')
cond_rel R true true e yes' no' = yes' refl
cond_rel R true false e yes' no' = absurd (true≢false e)
cond_rel R false true e yes' no' = absurd (false≢true e)
cond_rel R false false e yes' no' = no' refl

pub cond_eq : {A : Type 0} (b b' : Bool) {p q p' q' : A} → b ≡ b' → (b ≡ true → p ≡ p') → (b ≡ false → q ≡ q') → cond b p q ≡ cond b' p' q'
cond_eq {A} b b' e y n = cond_rel (λ (a a' : A). a ≡ a') b b' e y n

module _ (F S : ℕ) (limits : List ℤ) where
  abbrev pub book_number : List ℤ → List ℕ → ℕ
  book_number = number (List ℤ) book_view book_accept

  abbrev pub list_number : List (List ℕ) → List ℕ → ℕ
  list_number = number (List (List ℕ)) (list_view F S limits) list_accept

  module _ (w : List ℤ) (l : List (List ℕ)) (b : List ℕ) (r : Same F S limits w l) where
    sizes_same : record_number b (book_view w).facilities (book_view w).services ≡ record_number b F S
    sizes_same = ap₂ (record_number b) (agree F S limits w l r).F-is (agree F S limits w l r).S-is

    pub number_same : book_number w b ≡ list_number l b
    unfolding number list_view
    number_same =
        then_eq _ _ _ _ sizes_same λ e.
        judge_same F S Everyone (book_view w) (list_view F S limits l) (agree F S limits w l r) b (named F S b (sym sizes_same ∙ e)) (λ _. tt)

    -- What an accepted record has passed.
    passed : eqb (book_number w b) 0 ≡ true → Named F S b × (judge (book_view w) b ≡ 0)
    unfolding number
    passed e = let z = then_zero _ _ (eqb-true (book_number w b) 0 e) in (named F S b (sym sizes_same ∙ z.0), z.1)

    answer_as : answer (List ℤ) book_view book_accept w b ≡ list_answer F S limits l b
    unfolding answer
    answer_as =
        cond_eq (eqb (book_number w b) 0) (eqb (list_number l b) 0) (ap (λ (n : ℕ). eqb n 0) number_same)
        (λ e. let x = passed e in reply_same F S Everyone (book_view w) (list_view F S limits l) (agree F S limits w l r) (λ f. tt) b x.0 x.1)
        (λ e. ap plain number_same)

    after_as : Same F S limits (after (List ℤ) book_view book_accept w b) (list_after F S limits l b)
    unfolding after
    after_as =
        cond_rel (Same F S limits) (eqb (book_number w b) 0) (eqb (list_number l b) 0) (ap (λ (n : ℕ). eqb n 0) number_same)
        (λ e. let x = passed e in accept_same F S limits w l b r x.0 x.1) (λ e. r)

    module _ (ok : sizes_ok (pos F) (pos S) ≡ true) where
      -- A book that shows what a list shows does not draw 1.
      pub is_book_same : is_book w ≡ true
      unfolding is_book
      is_book_same =
          let long : 64 ≤ length w = unfold book_size in omega (arith, r.fits) in
          rw (le-leb 64 (length w) long, r.mark_is, r.version_is, r.F-is, r.S-is, ok, le-leb (book_size F S) (length w) r.fits, clock_is F S limits w l r, r.timely)

      pub answer_same : book_answer w b ≡ list_answer F S limits l b
      unfolding book_answer
      answer_same = rw is_book_same answer_as

      pub after_same : Same F S limits (book_after w b) (list_after F S limits l b)
      unfolding book_after
      after_same = rw is_book_same after_as

  pub answers_same : sizes_ok (pos F) (pos S) ≡ true → (bs : List (List ℕ)) (w : List ℤ) (l : List (List ℕ)) → Same F S limits w l
      → book_answers w bs ≡ list_answers F S limits l bs
  unfolding book_answers list_answers
  answers_same ok [] w l r = refl
  answers_same ok (b ∷ bs) w l r =
      ap₂ {C = List Answer} (λ a m. a ∷ m) (answer_same w l b r ok) (answers_same ok bs (book_after w b) (list_after F S limits l b) (after_same w l b r ok))

pub every_list : EveryList
unfolding EveryList
every_list w F S limits six z bs =
    answers_same (to_nat F) (to_nat S) limits (sizes_opened w F S limits six z) bs (opening_words w F S limits) [] (opening_same w F S limits six z)
