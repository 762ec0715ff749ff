use Rattle.std.proofs.Common.{sym}
use Rattle.units.proofs.Counts.{handed_on}
use Rattle.judging.proofs.Answering.{by_first, refused_by}
use Rattle.writing.proofs.OfferParts.{variation_parts}
use Rattle.writing.proofs.variation_call.Goals as goal

pub returns-in_err-period : goal.returns-in_err-period
returns-in_err-period c =
    let w = c.args.book.now in
    let b = c.args.bytes.now in
    let word = handed_on c.period_word.type_inv c.period_word.ensures in
    let n = c.named-series.ensures in
    let x = c.in_err-period in
    refused_by w b c.requires.tested c.from_residual.result x.field-0.0 c.from_residual.ensures.1
    (by_first _ _ (variation_parts w b c.requires.call_is) x.field-0.0 (rw (n.0, n.1, n.2, word) at x.ensures.number))

pub vary-requires : goal.vary-requires
vary-requires c =
    let word = handed_on c.period_word.type_inv c.period_word.ensures in
    let n = c.named-series.ensures in
    let x = c.in_ok-period.ensures in
    record {
      admitted = record { place = c.requires; is_admitted = sym (rw (n.0, n.1, n.2, word) at x.number) };
      period = rw word at x.period;
    }
