-- Refusals 1 to 4 of words and bytes.
use Rattle.std.specs.Prelude.{cond, List, ℕ, ℤ}
use Rattle.book_rules.specs.Record.{record_number}
use Rattle.book_rules.specs.Words.{is_book}
use Rattle.book_rules.specs.Book.{facilities_in, services_in}

-- The number that is drawn, or 0.
abbrev pub tested_number : List ℤ → List ℕ → ℕ
tested_number w b = cond (is_book w) (record_number b (facilities_in w) (services_in w)) 1
