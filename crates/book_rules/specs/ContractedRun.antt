-- Demand 3 from contracts alone: what holds of every run of calls that keep the contract of `call`, whatever code carries them out.
-- "Premise: each call is lent the whole book as the one before left it, the first as opened, and nothing else writes it between."
-- That `open` and `call` keep the two contracts below, `Opens` and `Calls`, is used where a list of records is answered (listed, answer_list).
use Rattle.std.specs.Prelude.{◌≡◌, true, cond, not, ◌&&◌, List, [], ◌∷◌, ℕ, eqb, ℤ, length}
use Rattle.offer_rules.specs.Numbers.{to_nat}
use Rattle.book_rules.specs.Words.{opening_number, opening_words}
use Rattle.book_rules.specs.Force.{Answer}
use Rattle.book_rules.specs.Book.{book_answer, book_after}
use Rattle.book_rules.specs.ListMachine.{list_answers}
use Rattle.book_rules.specs.Claims.{is_others_filing, is_look_up_for}

-- The contract of `open`: the number it returns and the words it leaves.
pub record Opens (words : List ℤ) (F S : ℤ) (limits : List ℤ) (number : ℕ) (words_after : List ℤ) : Type 0 where
  pub number_is : number ≡ opening_number words F S limits
  pub words_are : words_after ≡ opening_words words F S limits

-- The contract of `call`: the answer it returns and the words it leaves.
pub record Calls (words : List ℤ) (bytes : List ℕ) (answer : Answer) (words_after : List ℤ) : Type 0 where
  pub answer_is : answer ≡ book_answer words bytes
  pub words_are : words_after ≡ book_after words bytes

-- A run from lent words on: its records, the answers returned and the words left at its end. Each call is lent the words that the one before left.
pub data ContractedRun : List ℤ → List (List ℕ) → List Answer → List ℤ → Type 0 where
  no_call : {words : List ℤ} → ContractedRun words [] [] words
  one_call : {words words_after left : List ℤ} {bytes : List ℕ} {answer : Answer} {rest : List (List ℕ)} {answers : List Answer}
      → Calls words bytes answer words_after → ContractedRun words_after rest answers left → ContractedRun words (bytes ∷ rest) (answer ∷ answers) left

-- A run "from a freshly opened book": an opening that returned 0, and a run from the words that it left.
pub record OpenedRun (lent : List ℤ) (F S : ℤ) (limits : List ℤ) (records : List (List ℕ)) (answers : List Answer) (left : List ℤ) : Type 0 where
  pub opened : List ℤ
  pub opens : Opens lent F S limits 0 opened
  pub run : ContractedRun opened records answers left

-- ---- every list

-- The answers of every run from a freshly opened book are the list machine's.
unfoldable pub EveryRun : Type 0
EveryRun = (lent : List ℤ) (F S : ℤ) (limits : List ℤ) → length limits ≡ 6
    → (records : List (List ℕ)) (answers : List Answer) (left : List ℤ) → OpenedRun lent F S limits records answers left
    → answers ≡ list_answers (to_nat F) (to_nat S) limits [] records

-- ---- striking out

-- "strike out of such a list all refused calls and all filings for other facilities": for f, and a list with the answers that its run returned.
-- "Which calls are refused is read from the run of the whole list": from these answers' numbers, and from nothing else.
-- A run has an answer for each record.
unfoldable pub struck_by : ℕ → List (List ℕ) → List Answer → List (List ℕ)
struck_by f [] answers = []
struck_by f (b ∷ bs) [] = []
struck_by f (b ∷ bs) (a ∷ answers) = cond (eqb a.number 0 && not (is_others_filing f b)) (b ∷ struck_by f bs answers) (struck_by f bs answers)

-- "Every look-up for that facility, made after the shorter list from the same start, returns what it returns after the whole one."
-- The look-up is made by a call that keeps the contract, and may be accepted or refused. Each run has an opening of its own, as words in which
-- one list has run are no longer as opened: the same start is an opening for the same F, S and limits, whatever words are lent to it.
unfoldable pub StrikingOutOfRuns : Type 0
StrikingOutOfRuns = (lent lent' : List ℤ) (F S : ℤ) (limits : List ℤ) → length limits ≡ 6
    → (f : ℕ) (records : List (List ℕ)) (answers answers' : List Answer) (left left' : List ℤ)
    → OpenedRun lent F S limits records answers left → OpenedRun lent' F S limits (struck_by f records answers) answers' left'
    → (q : List ℕ) (answer answer' : Answer) (after after' : List ℤ) → is_look_up_for f q ≡ true
    → Calls left q answer after → Calls left' q answer' after' → answer' ≡ answer

-- A run's answers to its look-ups for f, in order.
unfoldable pub looked_up : ℕ → List (List ℕ) → List Answer → List Answer
looked_up f [] answers = []
looked_up f (b ∷ bs) [] = []
looked_up f (b ∷ bs) (a ∷ answers) = cond (is_look_up_for f b) (a ∷ looked_up f bs answers) (looked_up f bs answers)

-- Those of them that say 0.
unfoldable pub accepted : List Answer → List Answer
accepted [] = []
accepted (a ∷ answers) = cond (eqb a.number 0) (a ∷ accepted answers) (accepted answers)

-- The look-ups for f that the shorter list keeps, which are the accepted ones, are answered in its run, one by one, as in the run of the whole list.
unfoldable pub StrikingOutInsideRuns : Type 0
StrikingOutInsideRuns = (lent lent' : List ℤ) (F S : ℤ) (limits : List ℤ) → length limits ≡ 6
    → (f : ℕ) (records : List (List ℕ)) (answers answers' : List Answer) (left left' : List ℤ)
    → OpenedRun lent F S limits records answers left → OpenedRun lent' F S limits (struck_by f records answers) answers' left'
    → looked_up f (struck_by f records answers) answers' ≡ accepted (looked_up f records answers)
