-- What refusal 1 has tested of a book's words, in the test's words and as plain bounds.
use Rattle.std.specs.Prelude.{◌≡◌, true, List, ◌+◌, ◌*◌, ◌≤◌, ℤ, length}
use Rattle.offer_rules.specs.Numbers.{to_nat, word}
use Rattle.offer_rules.specs.Time.{last_minute}
use Rattle.book_rules.specs.Words.{clock_place, is_book}
use Rattle.book_rules.specs.Book.{facilities_in, services_in}
use Rattle.cells.specs.Meaning.{Sized}

pub record Usable (w : List ℤ) : Type 0 where
  pub is_usable : is_book w ≡ true
  pub sized : Sized w (facilities_in w) (services_in w)
  pub blocks : 64 + 32 * facilities_in w ≤ length w
  pub timely : to_nat (word w clock_place) ≤ last_minute
