use Rattle.std.proofs.Common.{arith, refl, sym, ◌∙◌}
use Rattle.units.proofs.Counts.{handed_on}
use Rattle.book_rules.specs.Book.{book_view}
use Rattle.book_rules.proofs.Calls.{judge_outage}
use Rattle.book_rules.proofs.OneCall.{accept_outage}
use Rattle.judging.proofs.Answering.{by_first, by_next, refused_by, filed}
use Rattle.writing.proofs.outage_call.Goals as goal

pub returns-in_err-check_kind : goal.returns-in_err-check_kind
unfolding book_view
returns-in_err-check_kind c =
    let w = c.args.book.now in
    let b = c.args.bytes.now in
    let n = c.named-facility.ensures in
    let x = c.in_err-check_kind in
    refused_by w b c.requires.tested c.from_residual.result x.field-0.0 c.from_residual.ensures.1
    (by_first _ _ (judge_outage (book_view w) b c.requires.call_is) x.field-0.0 (rw (n.0, n.1) at x.ensures.number))

pub returns-in_err-check_outage : goal.returns-in_err-check_outage
unfolding book_view
returns-in_err-check_outage c =
    let w = c.args.book.now in
    let b = c.args.bytes.now in
    let minute = handed_on c.word_at-minute.type_inv c.word_at-minute.ensures in
    let count = handed_on c.word_at-count.type_inv c.word_at-count.ensures in
    let n = c.named-facility.ensures in
    let kind = rw (n.0, n.1) at c.in_ok-check_kind.ensures.number in
    let x = c.in_err-check_outage in
    refused_by w b c.requires.tested c.from_residual-in_err-check_outage.result x.field-0.0 c.from_residual-in_err-check_outage.ensures.1
    (by_next _ _ (judge_outage (book_view w) b c.requires.call_is) kind (rw (c.clock.ensures, c.capability.ensures, n.0, n.1, minute, count) at x.ensures.number))

-- None is drawn, and the window's two words are written.
pub outage_window-requires : goal.outage_window-requires
outage_window-requires c = c.in_ok-check_outage.ensures.passed refl

pub returns : goal.returns
unfolding book_view
returns c =
    let w = c.args.book.now in
    let b = c.args.bytes.now in
    let minute = handed_on c.word_at-minute.type_inv c.word_at-minute.ensures in
    let count = handed_on c.word_at-count.type_inv c.word_at-count.ensures in
    let n = c.named-facility.ensures in
    let kind = rw (n.0, n.1) at c.in_ok-check_kind.ensures.number in
    let outage = rw (c.clock.ensures, c.capability.ensures, n.0, n.1, minute, count) at c.in_ok-check_outage.ensures.number in
    filed w b c.requires.tested 5 c.requires.call_is (omega arith) (by_next _ _ (judge_outage (book_view w) b c.requires.call_is) kind outage)
    c.store_words.new.book
    (c.store_words.ensures ∙ rw (c.start-at.ensures.0, n.1, c.outage_window.ensures, minute, count) (sym (accept_outage w b c.requires.call_is)))
