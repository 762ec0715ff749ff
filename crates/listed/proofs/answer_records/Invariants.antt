use Rattle.std.proofs.Common.{◌≡◌, ◌*◌, ◌++◌, length, drop, take}
use Rattle.book_rules.specs.Book.{book_answers, book_run}
use Rattle.listed.specs.ListAnswered.{flat}
use Rattle.listed.proofs.answer_records.Given as goal

abbrev pub invariant-loop-i : goal.invariant-loop-i
invariant-loop-i l =
    (length l.answers ≡ length l.initial.answers)
    × (l.answers ≡ flat (book_answers l.initial.words (take l.i l.records)) ++ drop (26 * l.i) l.initial.answers)
    × (l.words ≡ book_run l.initial.words (take l.i l.records))
