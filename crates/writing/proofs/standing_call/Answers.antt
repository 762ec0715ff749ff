use Rattle.std.proofs.Common.{sym}
use Rattle.units.proofs.Counts.{handed_on}
use Rattle.judging.proofs.Answering.{by_first, refused_by}
use Rattle.writing.proofs.OfferParts.{standing_parts}
use Rattle.writing.proofs.standing_call.Goals as goal

pub returns-in_err-slot : goal.returns-in_err-slot
returns-in_err-slot c =
    let w = c.args.book.now in
    let b = c.args.bytes.now in
    let word = handed_on c.period_word.type_inv c.period_word.ensures in
    let n = c.named-series.ensures in
    let x = c.in_err-slot in
    refused_by w b c.requires.tested c.from_residual.result x.field-0.0 c.from_residual.ensures.1
    (by_first _ _ (standing_parts w b c.requires.call_is) x.field-0.0 (rw (n.0, n.1, n.2, word) at x.ensures.number))

pub stand-requires : goal.stand-requires
stand-requires c =
    let word = handed_on c.period_word.type_inv c.period_word.ensures in
    let n = c.named-series.ensures in
    let x = c.in_ok-slot.ensures in
    record {
      admitted = record { place = c.requires; is_admitted = sym (rw (n.0, n.1, n.2, word) at x.number) };
      slot = rw word at x.slot;
    }
