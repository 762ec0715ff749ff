use Rattle.std.proofs.Common.{◌≡◌, ◌+◌, ◌++◌, length, take, drop}
use Rattle.cells.proofs.stores.store_words.Given as goal

abbrev pub invariant-loop-i : goal.invariant-loop-i
invariant-loop-i l =
    (length l.book ≡ length l.initial.book) × (l.book ≡ (take l.at l.initial.book ++ take l.i l.words) ++ drop (l.at + l.i) l.initial.book)
