-- Demand 3, of running code: what `answer_list` gives for lent words, records and room for answers.
-- Its answers are the list machine's (book_rules, specs/ListMachine), which has no table.
use Rattle.std.specs.Prelude.{◌≡◌, cond, List, [], ◌∷◌, ◌++◌, ℕ, zero, suc, ◌*◌, ◌/◌, min, eqb, ℤ, pos, length, take, drop, Result, Ok, Err}
use Rattle.offer_rules.specs.Numbers.{to_nat}
use Rattle.book_rules.specs.Words.{opening_number, opening_words}
use Rattle.book_rules.specs.Force.{Answer}
use Rattle.book_rules.specs.Book.{book_run}
use Rattle.book_rules.specs.ListMachine.{list_answer, list_answers}
use Rattle.layout.specs.Refusal.{drawn}
use Rattle.layout.specs.declared.refusal.Refusal.{Refusal}

-- The first n records of 112 bytes.
unfoldable pub chopped : ℕ → List ℕ → List (List ℕ)
chopped zero bytes = []
chopped (suc n) bytes = take 112 bytes ∷ chopped n (drop 112 bytes)

-- "Each call returns a number, 24 words and a sum": 26 numbers.
unfoldable pub numbers_of : Answer → List ℤ
numbers_of a = pos a.number ∷ (a.words ++ (a.sum ∷ []))

-- Each answer of the list machine is 26 numbers, so that those of answer i start at 26·i.
unfoldable pub TwentySixEach : Type 0
TwentySixEach = (F S : ℕ) (limits : List ℤ) (l : List (List ℕ)) (b : List ℕ) → length (numbers_of (list_answer F S limits l b)) ≡ 26

-- The numbers of answers, one answer after another.
unfoldable pub flat : List Answer → List ℤ
flat [] = []
flat (a ∷ rest) = numbers_of a ++ flat rest

-- As many records as are whole and have room for their answers; none where the opening drew a number.
unfoldable pub count_answered : ℕ → List ℕ → List ℤ → ℕ
count_answered number bytes room = cond (eqb number 0) (min (length bytes / 112) (length room / 26)) 0

-- How many were answered, of what is returned.
abbrev pub answered : Result ℕ Refusal → ℕ
answered (Ok count) = count
answered (Err _) = 0

-- For lent words, an opening's F, S and limits, bytes of records and room for answers:
-- what is returned, and the words and the numbers afterwards.
pub record ListAnswered (words : List ℤ) (F S : ℤ) (limits : List ℤ) (bytes : List ℕ) (room : List ℤ) (r : Result ℕ Refusal) (words_after numbers_after : List ℤ)
    : Type 0 where
  -- "Opening returns its number alone, 0 or 20."
  pub number_is : drawn r ≡ opening_number words F S limits
  pub count_is : answered r ≡ count_answered (drawn r) bytes room
  -- The answers are the list machine's, fed the records alone from no accepted call on. Numbers past them stay.
  pub answers_are : numbers_after ≡ flat (list_answers (to_nat F) (to_nat S) limits [] (chopped (answered r) bytes)) ++ drop (26 * answered r) room
  -- The words are those that the records' calls leave, from those of the opening on.
  pub words_are : words_after ≡ book_run (opening_words words F S limits) (chopped (answered r) bytes)
