use Rattle.std.proofs.Common.{◌≡◌, arith, refl, sym, ◌∙◌, ◌+◌, ◌*◌, ◌≤◌}
use Rattle.units.proofs.Counts.{handed_on}
use Rattle.book_rules.specs.Record.{reason_of}
use Rattle.book_rules.specs.Words.{notice_place}
use Rattle.book_rules.specs.Book.{book_view}
use Rattle.book_rules.proofs.Calls.{judge_notice}
use Rattle.book_rules.proofs.OneCall.{accept_notice}
use Rattle.judging.proofs.Answering.{refused_by, filed}
use Rattle.writing.proofs.notice_call.Goals as goal

pub returns-in_err-check_notice : goal.returns-in_err-check_notice
returns-in_err-check_notice c =
    let w = c.args.book.now in
    let b = c.args.bytes.now in
    let first = handed_on c.word_at-first.type_inv c.word_at-first.ensures in
    let last = handed_on c.word_at-last.type_inv c.word_at-last.ensures in
    let x = c.in_err-check_notice in
    refused_by w b c.requires.0 c.from_residual.result x.field-0.0 c.from_residual.ensures.1
    (rw (first, last) at x.ensures.number ∙ sym (judge_notice (book_view w) b c.requires.1))

-- Its kind is 3, 4 or 5, and its window is two words a kind, from kind 3 on.
pub overflow_sub-kind : goal.overflow_sub-kind
overflow_sub-kind c = (c.in_ok-check_notice.ensures.passed refl).0

pub returns : goal.returns
returns c =
    let w = c.args.book.now in
    let b = c.args.bytes.now in
    let first = handed_on c.word_at-first.type_inv c.word_at-first.ensures in
    let last = handed_on c.word_at-last.type_inv c.word_at-last.ensures in
    let kind : 3 ≤ reason_of b = (c.in_ok-check_notice.ensures.passed refl).0 in
    let place : 5 + 2 * c.from.result ≡ notice_place (reason_of b) = omega (arith, c.from.ensures) in
    filed w b c.requires.0 6 c.requires.1 (omega arith) (rw (first, last) at c.in_ok-check_notice.ensures.number ∙ sym (judge_notice (book_view w) b c.requires.1))
    c.store_words.new.book
    (c.store_words.ensures ∙ rw (place, first, last) (sym (accept_notice w b c.requires.1)))
