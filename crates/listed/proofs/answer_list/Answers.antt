use Rattle.std.proofs.Common.{◌≡◌, ◌∙◌, ◌/◌, ℕ, ℤ, List, [], length, take, min, refl, sym, ap, arith, rules, length-take-le, to_z, of_z, w32}
use borrow.Author.Tests.{ne_eqb}
use mir.Val.{SFits}
use mir.Facts.{to_z-of_z}
use Rattle.std.proofs.lemmas.Result.{err_from_is_err_and}
use Rattle.offer_rules.specs.Numbers.{to_nat}
use Rattle.book_rules.specs.Words.{opening_number, opening_words}
use Rattle.book_rules.specs.Book.{book_answers, book_run}
use Rattle.book_rules.specs.ListMachine.{list_answers}
use Rattle.book_rules.specs.Claims.{EveryList}
use Rattle.book_rules.specs.ContractedRun.{Opens}
use Rattle.book_rules.proofs.EveryCall.{every_list}
use Rattle.layout.proofs.Chains.{is_drawn}
use Rattle.listed.specs.ListAnswered.{chopped, flat, count_answered}
use Rattle.listed.proofs.OneMoreRecord.{chopped_first}
use Rattle.listed.proofs.answer_list.Goals as goal

-- The opening keeps the contract that every run is about.
opened : (w : List ℤ) (F S : ℤ) (limits : List ℤ) {number : ℕ} {words : List ℤ} → SFits w32 F → SFits w32 S
    → number ≡ opening_number w (to_z w32 (of_z w32 F)) (to_z w32 (of_z w32 S)) limits → words ≡ opening_words w (to_z w32 (of_z w32 F)) (to_z w32 (of_z w32 S)) limits
    → Opens w F S limits number words
opened w F S limits f s n v = record { number_is = rw (to_z-of_z {w = w32} f, to_z-of_z {w = w32} s) at n; words_are = rw (to_z-of_z {w = w32} f, to_z-of_z {w = w32} s) at v }

pub returns-in_err-open : goal.returns-in_err-open
unfolding count_answered chopped flat list_answers book_run
returns-in_err-open c =
    let a = c.args in
    let x = c.in_err-open in
    let o = opened a.words.now a.facilities a.services a.limits c.ranges.facilities c.ranges.services x.ensures.number x.ensures.words in
    let p = err_from_is_err_and c.from_residual.result c.from_residual.ensures.1 in
    rw (p.1, p.2)
    record {
      number_is = o.number_is;
      count_is = rw (ne_eqb _ 0 (is_drawn x.field-0.0));
      answers_are = refl;
      words_are = o.words_are;
    }

pub returns : goal.returns
unfolding count_answered EveryList
returns c =
    let a = c.args in
    let w = a.words.now in
    let bytes = a.records.now in
    let n = c.min-count.result in
    let whole = length bytes / 112 in
    let o = opened w a.facilities a.services a.limits c.ranges.facilities c.ranges.services c.in_ok-open.ensures.number c.in_ok-open.ensures.words in
    let count : n ≡ min whole (length a.answers.now / 26) = c.min-count.ensures ∙ ap (λ (k : ℕ). min k (length a.answers.now / 26)) c.as_chunks.ensures.front_len in
    let records : take n c.as_chunks.result.0.now ≡ chopped n bytes = ap (take n) c.as_chunks.ensures.front ∙ chopped_first n whole bytes (omega arith) in
    let many : length (take n c.as_chunks.result.0.now) ≡ n = length-take-le n c.as_chunks.result.0.now (omega arith) in
    let agree : book_answers c.open.new.book (chopped n bytes) ≡ list_answers (to_nat a.facilities) (to_nat a.services) a.limits [] (chopped n bytes) =
    ap (λ (v : List ℤ). book_answers v (chopped n bytes)) o.words_are ∙ every_list w a.facilities a.services a.limits (search rules) (sym o.number_is) (chopped n bytes) in record {
      number_is = o.number_is;
      count_is = count;
      answers_are = rw (many, records, agree) at c.answer_records.ensures.0;
      words_are = rw records at c.answer_records.ensures.1 ∙ ap (λ (v : List ℤ). book_run v (chopped n bytes)) o.words_are;
    }
