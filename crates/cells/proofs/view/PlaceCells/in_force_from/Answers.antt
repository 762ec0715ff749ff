use Rattle.std.proofs.Common.{arith, ◌<◌}
use Rattle.offer_rules.specs.Time.{slot_of}
use Rattle.book_rules.specs.Words.{variation_half}
use Rattle.book_rules.proofs.Places.{cell_inside}
use Rattle.cells.proofs.Halves.{variation_place}
use Rattle.cells.proofs.view.PlaceCells.in_force_from.Goals as goal

pub held_at-requires : goal.held_at-requires
held_at-requires c =
    let p = c.args.self.now.place in
    let k = slot_of c.args.period.number in
    let next : k < 336 = omega arith in
    let apart = variation_place p.sizes.facilities p.sizes.services p.f p.s k in
    let inside = cell_inside p.sizes.facilities p.sizes.services p.f p.s variation_half k p.inside.0 p.inside.1 (omega arith) next in
    omega (arith, apart, inside, c.requires, c.from.ensures.0, c.args.self.now.sized.room)
