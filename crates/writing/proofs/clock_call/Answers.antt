use Rattle.std.proofs.Common.{arith, sym, ◌∙◌, ap, ◌∷◌, [], ℤ}
use Rattle.units.proofs.Counts.{handed_on}
use Rattle.book_rules.specs.Words.{put, clock_place}
use Rattle.book_rules.specs.Book.{book_view}
use Rattle.book_rules.proofs.Calls.{judge_clock}
use Rattle.book_rules.proofs.OneCall.{accept_clock}
use Rattle.judging.proofs.Answering.{refused_by, filed}
use Rattle.writing.proofs.clock_call.Goals as goal

pub returns-in_err-check_clock : goal.returns-in_err-check_clock
unfolding book_view
returns-in_err-check_clock c =
    let w = c.args.book.now in
    let b = c.args.bytes.now in
    let minute = handed_on c.word_at-minute.type_inv c.word_at-minute.ensures in
    let x = c.in_err-check_clock in
    refused_by w b c.requires.0 c.from_residual.result x.field-0.0 c.from_residual.ensures.1
    (rw (c.clock-clock.ensures, minute) at x.ensures.number ∙ sym (judge_clock (book_view w) b c.requires.1))

pub returns : goal.returns
unfolding book_view
returns c =
    let w = c.args.book.now in
    let b = c.args.bytes.now in
    let minute = handed_on c.word_at-minute.type_inv c.word_at-minute.ensures in
    filed w b c.requires.0 1 c.requires.1 (omega arith)
    (rw (c.clock-clock.ensures, minute) at c.in_ok-check_clock.ensures.number ∙ sym (judge_clock (book_view w) b c.requires.1))
    c.store_words.new.book
    (c.store_words.ensures ∙ ap (λ (z : ℤ). put w clock_place (z ∷ [])) minute ∙ sym (accept_clock w b c.requires.1))
