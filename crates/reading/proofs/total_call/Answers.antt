use Rattle.std.proofs.lemmas.Result.{err_from_is_err_and}
use Rattle.units.proofs.Counts.{handed_on}
use Rattle.reading.proofs.Read.{total_refused, total_answered}
use Rattle.reading.proofs.total_call.Goals as goal

pub returns : goal.returns
returns c =
    let period = handed_on c.period_word.type_inv c.period_word.ensures in
    total_answered c.args.book.now c.args.bytes.now c.requires.0 c.requires.1 period _ c.in_ok-period.ensures.number c.cells.ensures.0 c.place.ensures.0 c.in_ok-period.ensures.period c.total.ensures

pub returns-in_err-period : goal.returns-in_err-period
returns-in_err-period c =
    let period = handed_on c.period_word.type_inv c.period_word.ensures in
    let p = err_from_is_err_and c.from_residual.result c.from_residual.ensures.1 in
    rw (p.1, p.2) (total_refused c.args.book.now c.args.bytes.now c.requires.0 c.requires.1 period c.in_err-period.field-0.0 c.in_err-period.ensures.number)
