use Rattle.std.proofs.Common.{arith}
use Rattle.book_rules.specs.Words.{cell_place}
use Rattle.book_rules.proofs.Places.{cell_inside}
use Rattle.cells.proofs.places.CellPlace.start.Goals as goal

pub returns-clause-room : goal.returns-clause-room
unfolding cell_place
returns-clause-room c =
    let a = c.args in
    let p = a.self.place in
    let inside = cell_inside p.sizes.facilities p.sizes.services p.f p.s c.from.result a.self.slot.number p.inside.0 p.inside.1 c.from.ensures.1 a.self.slot.in_week in
    omega arith
