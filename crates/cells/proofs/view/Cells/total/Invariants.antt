use Rattle.std.proofs.Common.{◌≡◌, ◌≤◌, ◌*◌, nat_abs}
use Rattle.offer_rules.specs.Time.{slot_of}
use Rattle.book_rules.specs.Words.{cell_place, standing_half}
use Rattle.book_rules.specs.Force.{count_in_force, sum_in_force}
use Rattle.book_rules.specs.Book.{book_view}
use Rattle.cells.proofs.view.Cells.total.Given as goal

-- the first f facilities' offers in force, counted and added
abbrev pub invariant-loop-f : goal.invariant-loop-f
invariant-loop-f l =
    let w = l.self.words.now in
    (l.t.count ≡ count_in_force (book_view w) l.s l.period.number l.f) × (l.t.sum ≡ sum_in_force (book_view w) l.s l.period.number l.f) × (l.f ≤ l.self.sizes.facilities)
    × (l.at ≡ cell_place l.self.sizes.facilities l.self.sizes.services l.f l.s standing_half (slot_of l.period.number)) × (l.t.count ≤ l.f) × (nat_abs l.t.sum ≤ l.f * 21474836480)
