-- A turn of the loop over records: the words that one more record leaves, its answer and that answer's numbers; and the records themselves.
use Rattle.std.proofs.Common.{◌≡◌, ◌∙◌, refl, sym, ap, List, [], ◌∷◌, ◌++◌, append_assoc, append-nil, ℕ, zero, suc, ◌+◌, ◌≤◌, ◌<◌, ℤ, arith, length, take, drop, get_or, length-append, length-drop}
use Rattle.std.proofs.lemmas.List.{take_more}
use Rattle.std.specs.Simd.{first_chunks}
use Rattle.book_rules.specs.Force.{Answer}
use Rattle.book_rules.specs.Book.{book_answer, book_after, book_answers, book_run}
use Rattle.listed.specs.ListAnswered.{chopped, numbers_of, flat}

pub run_more : (w : List ℤ) (bs : List (List ℕ)) (b : List ℕ) → book_run w (bs ++ (b ∷ [])) ≡ book_after (book_run w bs) b
unfolding book_run
run_more w [] b = refl
run_more w (x ∷ bs) b = run_more (book_after w x) bs b

pub answers_more : (w : List ℤ) (bs : List (List ℕ)) (b : List ℕ) → book_answers w (bs ++ (b ∷ [])) ≡ book_answers w bs ++ (book_answer (book_run w bs) b ∷ [])
unfolding book_run book_answers
answers_more w [] b = refl
answers_more w (x ∷ bs) b = ap (λ (l : List Answer). book_answer w x ∷ l) (answers_more (book_after w x) bs b)

pub flat_more : (l : List Answer) (a : Answer) → flat (l ++ (a ∷ [])) ≡ flat l ++ numbers_of a
unfolding flat
flat_more [] a = append-nil (numbers_of a)
flat_more (x ∷ l) a = ap (λ (m : List ℤ). numbers_of x ++ m) (flat_more l a) ∙ sym (append_assoc (numbers_of x) (flat l) (numbers_of a))

-- The words after the first n + 1 records, and their answers' numbers.
module _ (w : List ℤ) (rs : List (List ℕ)) (n : ℕ) (h : n < length rs) where
  abbrev pub words_at : List ℤ
  words_at = book_run w (take n rs)

  pub words_more : book_run w (take (n + 1) rs) ≡ book_after words_at (get_or rs n [])
  words_more = ap (book_run w) (take_more rs n [] h) ∙ run_more w (take n rs) (get_or rs n [])

  pub numbers_more : flat (book_answers w (take (n + 1) rs)) ≡ flat (book_answers w (take n rs)) ++ numbers_of (book_answer words_at (get_or rs n []))
  numbers_more =
      ap (λ (l : List (List ℕ)). flat (book_answers w l)) (take_more rs n [] h)
      ∙ ap flat (answers_more w (take n rs) (get_or rs n []))
      ∙ flat_more (book_answers w (take n rs)) (book_answer words_at (get_or rs n []))

-- What stands before numbers that stay, by its length.
pub length_before : (x d l : List ℤ) (n : ℕ) → l ≡ x ++ drop n d → length l ≡ length d → n ≤ length d → length x ≡ n
length_before x d l n e h k = omega (arith, simp (length-append, length-drop) at (ap length e))

-- The first records, of all that are whole.
pub chopped_first : (n m : ℕ) (bytes : List ℕ) → n ≤ m → take n (first_chunks 112 m bytes) ≡ chopped n bytes
unfolding chopped
chopped_first zero m bytes h = refl
chopped_first (suc n) zero bytes h = absurd (omega arith)
chopped_first (suc n) (suc m) bytes h = ap (λ (l : List (List ℕ)). take 112 bytes ∷ l) (chopped_first n m (drop 112 bytes) (omega arith))
