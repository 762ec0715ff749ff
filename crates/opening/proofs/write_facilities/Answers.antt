use Rattle.std.proofs.Common.{◌≡◌, ◌*◌, ◌+◌, arith}
use native.Mathlib.Numerals.{add-one}
use Rattle.book_rules.specs.Words.{empty_facility, empty_facilities}
use Rattle.book_rules.proofs.Opening.{length_facilities}
use Rattle.opening.proofs.Filling.{length_facility, facilities_snoc}
use Rattle.opening.proofs.LentParts.{lent_next}
use Rattle.opening.proofs.write_facilities.Goals as goal

pub loop-f-preserved : goal.loop-f-preserved
loop-f-preserved c =
    let f = c.loop-f.f in
    let k = length_facility in
    let from : 32 * (f + 1) ≡ 32 * f + 32 = omega arith in (
      omega arith,
      rw (c.copy_from_slice.ensures.after, c.empty_facility.ensures, c.loop-f.invariant.1, from, add-one f, facilities_snoc f)
          (lent_next (empty_facilities f) c.args.words.now empty_facility (32 * f) (32 * f + 32) (length_facilities f) (omega arith)),
    )
