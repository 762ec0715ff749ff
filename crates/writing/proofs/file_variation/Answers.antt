use Rattle.std.proofs.Common.{rules, sym, ◌∙◌, ap, ℕ, List, ℤ}
use Rattle.offer_rules.specs.Numbers.{any_beyond}
use Rattle.offer_rules.specs.Time.{slot_of}
use Rattle.offer_rules.specs.Offer.{accepted_at}
use Rattle.book_rules.specs.Words.{variation_half, variation_stamp, cell}
use Rattle.book_rules.specs.Book.{now_in, write_cell}
use Rattle.writing.proofs.OfferParts.{empty_cell, stamped_cell}
use Rattle.writing.proofs.file_variation.Goals as goal

pub invariant_of-filing-then-is_all_blank-2 : goal.invariant_of-filing-then-is_all_blank-2
unfolding any_beyond
invariant_of-filing-then-is_all_blank-2 c = search rules

pub returns-then-is_all_blank : goal.returns-then-is_all_blank
returns-then-is_all_blank c =
    let a = c.args in
    let w = a.book.now in
    let filed = λ (l : List ℤ). write_cell w a.place.f a.place.s variation_half (slot_of a.period.number) l in
    rw c.slot-slot.ensures at c.store_offer.ensures ∙ ap filed (empty_cell (variation_stamp a.period.number) (now_in w) a.filed.offer.now (sym c.is_all_blank.ensures ∙ c.if-is_all_blank.true))

pub returns : goal.returns
returns c =
    let a = c.args in
    let w = a.book.now in
    let o = a.filed.offer.now in
    let stamp = variation_stamp a.period.number in
    let filed = λ (l : List ℤ). write_cell w a.place.f a.place.s variation_half (slot_of a.period.number) l in
    let timed = ap (λ (n : ℕ). filed (cell stamp (accepted_at n o))) c.clock.ensures in
    rw (c.slot-slot.ensures, c.stamp-stamp.ensures) at c.store_offer-2.ensures ∙ timed ∙ ap filed (stamped_cell stamp (now_in w) o (sym c.is_all_blank.ensures ∙ c.if-is_all_blank.false))
