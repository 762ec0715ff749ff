use Rattle.std.proofs.Common.{arith, sym, ◌∙◌, ap, ap₂, ℕ, ℤ, List}
use Rattle.book_rules.specs.Words.{part, put, facility_place}
use Rattle.book_rules.specs.Refusals.{capability_number}
use Rattle.book_rules.specs.Book.{book_view}
use Rattle.book_rules.proofs.Calls.{judge_capability}
use Rattle.book_rules.proofs.OneCall.{accept_capability}
use Rattle.judging.proofs.Answering.{refused_by, filed}
use Rattle.writing.proofs.file_capability.Goals as goal

pub returns-in_err-check_capability : goal.returns-in_err-check_capability
unfolding book_view
returns-in_err-check_capability c =
    let w = c.args.book.now in
    let b = c.args.bytes.now in
    let n = c.named-facility.ensures in
    let held = c.capability.ensures ∙ ap₂ (λ (v : List ℤ) (f : ℕ). part (facility_place f) 17 v) n.0 n.1 in
    let x = c.in_err-check_capability in
    refused_by w b c.requires.tested c.from_residual.result x.field-0.0 c.from_residual.ensures.1
    (x.ensures.number ∙ ap₂ capability_number held c.capability_in-sent.ensures ∙ sym (judge_capability (book_view w) b c.requires.call_is))

pub returns : goal.returns
unfolding book_view
returns c =
    let w = c.args.book.now in
    let b = c.args.bytes.now in
    let n = c.named-facility.ensures in
    let held = c.capability.ensures ∙ ap₂ (λ (v : List ℤ) (f : ℕ). part (facility_place f) 17 v) n.0 n.1 in
    let at = c.start-at.ensures.0 ∙ ap facility_place n.1 in
    filed w b c.requires.tested 2 c.requires.call_is (omega arith)
    (c.in_ok-check_capability.ensures.number ∙ ap₂ capability_number held c.capability_in-sent.ensures ∙ sym (judge_capability (book_view w) b c.requires.call_is))
    c.store_words.new.book
    (c.store_words.ensures ∙ ap₂ (put w) at c.capability_in-sent.ensures ∙ sym (accept_capability w b c.requires.call_is))
