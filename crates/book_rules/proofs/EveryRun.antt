-- The answers of a contracted run are the book's, and so the list machine's; what its answers strike out is what the book strikes out,
-- and so look-ups are answered alike.
use mathlib.Core.Path.{◌≡◌, refl, sym, ap, ap₂, ◌∙◌}
use mathlib.Core.Bool.{Bool, true, false, cond, not, ◌&&◌}
use mathlib.Core.List.{List, [], ◌∷◌}
use Prim.Native.Nat.{ℕ}
use lib.Dec.{eqb}
use lib.IntN.{ℤ}
use Rattle.book_rules.specs.Words.{opening_words}
use Rattle.book_rules.specs.Force.{Answer}
use Rattle.book_rules.specs.Book.{book_answer, book_after, book_answers, book_run}
use Rattle.book_rules.specs.Claims.{EveryList, is_others_filing, is_look_up_for, is_accepted, struck_out, look_ups, accepted_look_ups}
use Rattle.book_rules.specs.ContractedRun.{ContractedRun, no_call, one_call, OpenedRun, EveryRun, struck_by, looked_up, accepted, StrikingOutOfRuns, StrikingOutInsideRuns}
use Rattle.book_rules.proofs.EveryCall.{every_list}
use Rattle.book_rules.proofs.Striking.{look_up_beside, look_ups_beside}

-- ---- a run by its words and records

-- Every list of records has a run from all words, and only the one.
pub run_of : (words : List ℤ) (records : List (List ℕ)) → ContractedRun words records (book_answers words records) (book_run words records)
unfolding book_answers book_run
run_of words [] = no_call
run_of words (b ∷ bs) = one_call (record { answer_is = refl; words_are = refl }) (run_of (book_after words b) bs)

pub run_answers : {words left : List ℤ} {records : List (List ℕ)} {answers : List Answer} → ContractedRun words records answers left
    → answers ≡ book_answers words records
unfolding book_answers
run_answers no_call = refl
run_answers {records = b ∷ bs} (one_call c rest) =
    ap₂ {C = List Answer} (λ a l. a ∷ l) c.answer_is (run_answers rest ∙ ap (λ (w : List ℤ). book_answers w bs) c.words_are)

pub run_left : {words left : List ℤ} {records : List (List ℕ)} {answers : List Answer} → ContractedRun words records answers left
    → left ≡ book_run words records
unfolding book_run
run_left no_call = refl
run_left {records = b ∷ bs} (one_call c rest) = run_left rest ∙ ap (λ (w : List ℤ). book_run w bs) c.words_are

-- ---- what a run's answers say of it, and what the book says

accepted_one : (x : Answer) (l m : List Answer) (k a : Bool) → eqb x.number 0 ≡ a → accepted l ≡ m → accepted (cond k (x ∷ l) l) ≡ cond (a && k) (x ∷ m) m
unfolding accepted
accepted_one x l m true true e h = rw e (ap (λ (n : List Answer). x ∷ n) h)
accepted_one x l m true false e h = rw e h
accepted_one x l m false true e h = h
accepted_one x l m false false e h = h

module _ (f : ℕ) where
  pub struck_by_is : (w : List ℤ) (bs : List (List ℕ)) → struck_by f bs (book_answers w bs) ≡ struck_out f w bs
  unfolding book_answers struck_by struck_out
  struck_by_is w [] = refl
  struck_by_is w (b ∷ bs) =
      ap (λ (l : List (List ℕ)). cond (is_accepted w b && not (is_others_filing f b)) (b ∷ l) l) (struck_by_is (book_after w b) bs)

  pub looked_up_is : (w : List ℤ) (bs : List (List ℕ)) → looked_up f bs (book_answers w bs) ≡ look_ups f w bs
  unfolding book_answers looked_up look_ups
  looked_up_is w [] = refl
  looked_up_is w (b ∷ bs) = ap (λ (l : List Answer). cond (is_look_up_for f b) (book_answer w b ∷ l) l) (looked_up_is (book_after w b) bs)

  pub accepted_is : (w : List ℤ) (bs : List (List ℕ)) → accepted (look_ups f w bs) ≡ accepted_look_ups f w bs
  unfolding look_ups accepted accepted_look_ups
  accepted_is w [] = refl
  accepted_is w (b ∷ bs) = accepted_one (book_answer w b) (look_ups f (book_after w b) bs) _ (is_look_up_for f b) (is_accepted w b) refl (accepted_is (book_after w b) bs)

-- A run from a freshly opened book, by the words lent to the opening and the records.
module _ {lent : List ℤ} {F S : ℤ} {limits : List ℤ} {records : List (List ℕ)} {answers : List Answer} {left : List ℤ} (r : OpenedRun lent F S limits records answers left) where
  opened_answers : answers ≡ book_answers (opening_words lent F S limits) records
  opened_answers = run_answers r.run ∙ ap (λ (w : List ℤ). book_answers w records) r.opens.words_are

  opened_left : left ≡ book_run (opening_words lent F S limits) records
  opened_left = run_left r.run ∙ ap (λ (w : List ℤ). book_run w records) r.opens.words_are

  opened_struck : (f : ℕ) → struck_by f records answers ≡ struck_out f (opening_words lent F S limits) records
  opened_struck f = ap (struck_by f records) opened_answers ∙ struck_by_is f (opening_words lent F S limits) records

  opened_looked_up : (f : ℕ) → looked_up f records answers ≡ look_ups f (opening_words lent F S limits) records
  opened_looked_up f = ap (looked_up f records) opened_answers ∙ looked_up_is f (opening_words lent F S limits) records

-- ---- the claims

pub every_run : EveryRun
unfolding EveryRun EveryList
every_run lent F S limits six records answers left r = opened_answers r ∙ every_list lent F S limits six (sym r.opens.number_is) records

pub striking_out_of_runs : StrikingOutOfRuns
unfolding StrikingOutOfRuns
striking_out_of_runs lent lent' F S limits six f records answers answers' left left' r r' q answer answer' after after' e c c' =
    c'.answer_is
    ∙ ap (λ (w : List ℤ). book_answer w q) (opened_left r' ∙ ap (book_run (opening_words lent' F S limits)) (opened_struck r f))
    ∙ look_up_beside lent lent' F S limits six (sym r.opens.number_is) (sym r'.opens.number_is) f records q e
    ∙ sym (c.answer_is ∙ ap (λ (w : List ℤ). book_answer w q) (opened_left r))

pub striking_out_inside_runs : StrikingOutInsideRuns
unfolding StrikingOutInsideRuns
striking_out_inside_runs lent lent' F S limits six f records answers answers' left left' r r' =
    opened_looked_up r' f
    ∙ ap (look_ups f (opening_words lent' F S limits)) (opened_struck r f)
    ∙ look_ups_beside lent lent' F S limits six (sym r.opens.number_is) (sym r'.opens.number_is) f records
    ∙ sym (ap accepted (opened_looked_up r f) ∙ accepted_is f (opening_words lent F S limits) records)
