use Rattle.std.proofs.Common.{arith, sym, ◌∙◌, inl}
use Rattle.offer_rules.specs.Numbers.{to_nat}
use Rattle.book_rules.specs.Record.{period_word}
use Rattle.book_rules.proofs.OneCall.{accept_standing}
use Rattle.judging.proofs.Answering.{by_next, refused_by, filed}
use Rattle.writing.proofs.OfferParts.{standing_parts, offer_uses_five, standing_ramps}
use Rattle.writing.proofs.stand.Goals as goal

pub check_standing-requires : goal.check_standing-requires
check_standing-requires c =
    let p = c.requires.admitted.place in
    let n = c.named-series.ensures in
    rw (n.2, c.read_offer.ensures) (offer_uses_five c.args.book.now c.args.bytes.now p.tested (inl p.call_is))

pub returns-in_err-check_standing : goal.returns-in_err-check_standing
returns-in_err-check_standing c =
    let w = c.args.book.now in
    let b = c.args.bytes.now in
    let p = c.requires.admitted.place in
    let n = c.named-series.ensures in
    let x = c.in_err-check_standing in
    refused_by w b p.tested c.from_residual.result x.field-0.0 c.from_residual.ensures.1
    (by_next _ _ (standing_parts w b p.call_is) (sym c.requires.admitted.is_admitted) (rw (n.0, n.1, n.2, c.requires.slot, c.read_offer.ensures) at x.ensures.number))

pub file_standing-requires : goal.file_standing-requires
file_standing-requires c =
    let w = c.args.book.now in
    let b = c.args.bytes.now in
    let p = c.requires.admitted.place in
    let n = c.named-series.ensures in
    let passed = rw (n.0, n.1, n.2, c.requires.slot, c.read_offer.ensures) at c.in_ok-check_standing.ensures.number in
    rw c.read_offer.ensures
    (p.tested.usable, rw (c.place-place.ensures.sizes.0, c.place-place.ensures.sizes.1, n.0) p.tested.usable.sized, standing_ramps w b p.tested p.call_is (to_nat (period_word b)) passed)

pub returns : goal.returns
returns c =
    let w = c.args.book.now in
    let b = c.args.bytes.now in
    let p = c.requires.admitted.place in
    let n = c.named-series.ensures in
    let passed = rw (n.0, n.1, n.2, c.requires.slot, c.read_offer.ensures) at c.in_ok-check_standing.ensures.number in
    filed w b p.tested 3 p.call_is (omega arith) (by_next _ _ (standing_parts w b p.call_is) (sym c.requires.admitted.is_admitted) passed)
    c.file_standing.new.book
    (c.file_standing.ensures ∙ rw (c.place-place.ensures.place.0, c.place-place.ensures.place.1, n.1, n.2, c.requires.slot, c.read_offer.ensures) (sym (accept_standing w b p.call_is)))
