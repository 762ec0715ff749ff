-- The worked run: nine records, and for each its number, word 0 and sum.
use Rattle.std.specs.Prelude.{◌≡◌, List, [], ◌∷◌, map, ℕ}
use Rattle.book_rules.specs.Book.{book_answers}
use Rattle.book_rules.specs.ListMachine.{list_answers}
use Rattle.cases.specs.Records.{◌at◌, clock, capability, standing, variation, look_up, total}
use Rattle.cases.specs.Cases.{limits, opened_book, Line, line_of, reads}

-- "capability (kind 1, W1 1,300, W2 800, W12 1); standing slot 4 (500 at 4,000 cents, 200 at 5,000); look-up 4; variation 4 (300 at 4,000);
-- look-up 4; total 4; look-up 340; clock 1,440; look-up 340"
abbrev pub records : List (List ℕ)
records =
    capability 1300 800
    ∷ (standing 4 (500 at 4000 ∷ (200 at 5000 ∷ []))
    ∷ (look_up 4
    ∷ (variation 4 0 (300 at 4000 ∷ [])
    ∷ (look_up 4
    ∷ (total 4
    ∷ (look_up 340
    ∷ (clock 1440
    ∷ (look_up 340
    ∷ []))))))))

-- "In document 01's run the third line becomes 0 3 700 and the fifth 0 4 300" (document 02).
abbrev pub lines : List Line
lines =
    reads 0 0 0 ∷ (reads 0 0 0 ∷ (reads 0 3 700 ∷ (reads 0 0 0 ∷ (reads 0 4 300 ∷ (reads 0 1 300 ∷ (reads 10 0 0 ∷ (reads 0 0 0 ∷ (reads 0 1 700 ∷ []))))))))

unfoldable pub RunOfBook : Type 0
RunOfBook = map line_of (book_answers opened_book records) ≡ lines

unfoldable pub RunOfList : Type 0
RunOfList = map line_of (list_answers 1 1 limits [] records) ≡ lines
