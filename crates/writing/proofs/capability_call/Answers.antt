use Rattle.std.proofs.Common.{sym, ◌∙◌, ap, ap₂, ℕ, ℤ, List, Bool}
use Rattle.units.proofs.Counts.{handed_on}
use Rattle.offer_rules.specs.Numbers.{draw}
use Rattle.book_rules.specs.Record.{facility_of}
use Rattle.book_rules.specs.Words.{part, facility_place}
use Rattle.book_rules.specs.Refusals.{kind_refused}
use Rattle.book_rules.specs.Book.{book_view}
use Rattle.book_rules.proofs.Calls.{judge_capability}
use Rattle.judging.proofs.Answering.{refused_by}
use Rattle.writing.proofs.SentKind.{sent_kind_drawn}
use Rattle.writing.proofs.capability_call.Goals as goal

pub returns-in_err-refuse_if : goal.returns-in_err-refuse_if
unfolding book_view
returns-in_err-refuse_if c =
    let w = c.args.book.now in
    let b = c.args.bytes.now in
    let n = c.named-facility.ensures in
    let held = c.capability.ensures ∙ ap₂ (λ (v : List ℤ) (f : ℕ). part (facility_place f) 17 v) n.0 n.1 in
    let kind = handed_on c.word_at-kind.type_inv c.word_at-kind.ensures in
    let x = c.in_err-refuse_if in
    let drawn = x.ensures.number ∙ ap (λ (t : Bool). draw t 8) (c.is_kind_refused.ensures ∙ ap₂ kind_refused held kind) in
    refused_by w b c.requires.tested c.from_residual.result x.field-0.0 c.from_residual.ensures.1
    (sent_kind_drawn x.field-0.0 (part (facility_place (facility_of b)) 17 w) b drawn ∙ sym (judge_capability (book_view w) b c.requires.call_is))
