use Rattle.std.proofs.Common.{arith, sym, ◌∙◌, inr}
use Rattle.book_rules.proofs.OneCall.{accept_variation}
use Rattle.judging.proofs.Answering.{by_first, by_next, refused_by, filed}
use Rattle.writing.proofs.OfferParts.{admitted_parts, offer_uses_five, variation_ramps}
use Rattle.writing.proofs.vary.Goals as goal

pub check_offer-requires : goal.check_offer-requires
check_offer-requires c =
    let p = c.requires.admitted.place in
    let n = c.named-series.ensures in
    rw (n.2, c.read_offer.ensures) (offer_uses_five c.args.book.now c.args.bytes.now p.tested (inr p.call_is))

pub returns-in_err-filed : goal.returns-in_err-filed
returns-in_err-filed c =
    let w = c.args.book.now in
    let b = c.args.bytes.now in
    let p = c.requires.admitted.place in
    let n = c.named-series.ensures in
    let x = c.in_err-filed in
    refused_by w b p.tested c.from_residual.result x.field-0.0 c.from_residual.ensures.1
    (by_first _ _ (admitted_parts w b p.call_is c.requires.admitted.is_admitted) x.field-0.0 (rw (n.0, n.1, n.2, c.read_offer.ensures) at x.ensures.number))

pub returns-in_err-check_variation_gate : goal.returns-in_err-check_variation_gate
returns-in_err-check_variation_gate c =
    let w = c.args.book.now in
    let b = c.args.bytes.now in
    let p = c.requires.admitted.place in
    let n = c.named-series.ensures in
    let passed = rw (n.0, n.1, n.2, c.read_offer.ensures) at c.in_ok-filed.ensures.number in
    let k = c.in_ok-filed.ensures.passed in
    let x = c.in_err-check_variation_gate in
    refused_by w b p.tested c.from_residual-in_err-check_variation_gate.result x.field-0.0 c.from_residual-in_err-check_variation_gate.ensures.1
    (by_next _ _ (admitted_parts w b p.call_is c.requires.admitted.is_admitted) passed (rw (n.0, n.1, n.2, c.requires.period, k.0, k.1, c.read_offer.ensures) at x.ensures.number))

pub file_variation-requires : goal.file_variation-requires
file_variation-requires c =
    let w = c.args.book.now in
    let b = c.args.bytes.now in
    let p = c.requires.admitted.place in
    let n = c.named-series.ensures in
    let passed = rw (n.0, n.1, n.2, c.read_offer.ensures) at c.in_ok-filed.ensures.number in
    let k = c.in_ok-filed.ensures.passed in
    rw (k.1, c.read_offer.ensures)
    (p.tested.usable, rw (c.place-place.ensures.sizes.0, c.place-place.ensures.sizes.1, n.0) p.tested.usable.sized, variation_ramps w b p.tested p.call_is passed)

pub returns : goal.returns
returns c =
    let w = c.args.book.now in
    let b = c.args.bytes.now in
    let p = c.requires.admitted.place in
    let n = c.named-series.ensures in
    let passed = rw (n.0, n.1, n.2, c.read_offer.ensures) at c.in_ok-filed.ensures.number in
    let k = c.in_ok-filed.ensures.passed in
    let gate = rw (n.0, n.1, n.2, c.requires.period, k.0, k.1, c.read_offer.ensures) at c.in_ok-check_variation_gate.ensures.number in
    filed w b p.tested 4 p.call_is (omega arith) (by_next _ _ (admitted_parts w b p.call_is c.requires.admitted.is_admitted) passed gate)
    c.file_variation.new.book
    (c.file_variation.ensures ∙ rw (c.place-place.ensures.place.0, c.place-place.ensures.place.1, n.1, n.2, c.requires.period, k.1, c.read_offer.ensures) (sym (accept_variation w b p.call_is)))
