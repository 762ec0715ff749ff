use Rattle.std.proofs.Common.{arith, sym, ◌∙◌}
use Rattle.book_rules.specs.Book.{book_view}
use Rattle.book_rules.proofs.Calls.{judge_withdrawal}
use Rattle.book_rules.proofs.OneCall.{accept_withdrawal}
use Rattle.judging.proofs.Answering.{refused_by, filed}
use Rattle.writing.proofs.withdrawal_call.Goals as goal

pub returns-in_err-check_withdrawal : goal.returns-in_err-check_withdrawal
returns-in_err-check_withdrawal c =
    let w = c.args.book.now in
    let b = c.args.bytes.now in
    let x = c.in_err-check_withdrawal in
    refused_by w b c.requires.0 c.from_residual.result x.field-0.0 c.from_residual.ensures.1
    (x.ensures.number ∙ sym (judge_withdrawal (book_view w) b c.requires.1))

-- Notice 5 is emptied.
pub returns : goal.returns
returns c =
    let w = c.args.book.now in
    let b = c.args.bytes.now in
    filed w b c.requires.0 7 c.requires.1 (omega arith) (c.in_ok-check_withdrawal.ensures.number ∙ sym (judge_withdrawal (book_view w) b c.requires.1))
    c.store_words.new.book
    (c.store_words.ensures ∙ sym (accept_withdrawal w b c.requires.1))
