use Rattle.std.proofs.lemmas.Result.{err_from_is_err_and}
use Rattle.units.proofs.Counts.{handed_on}
use Rattle.reading.proofs.Read.{look_up_refused, look_up_answered}
use Rattle.reading.proofs.look_up_call.Goals as goal

pub returns : goal.returns
returns c =
    let n = c.named-series.ensures in
    let period = handed_on c.period_word.type_inv c.period_word.ensures in
    look_up_answered c.args.book.now c.args.bytes.now c.requires.tested c.requires.call_is n.0 n.1 n.2 period _ c.in_ok-offer.ensures.number c.in_ok-offer.ensures.offer c.clock.ensures c.look_up.ensures

pub returns-in_err-offer : goal.returns-in_err-offer
returns-in_err-offer c =
    let n = c.named-series.ensures in
    let period = handed_on c.period_word.type_inv c.period_word.ensures in
    let p = err_from_is_err_and c.from_residual.result c.from_residual.ensures.1 in
    rw (p.1, p.2) (look_up_refused c.args.book.now c.args.bytes.now c.requires.tested c.requires.call_is n.0 n.1 n.2 period c.in_err-offer.field-0.0 c.in_err-offer.ensures.number)
