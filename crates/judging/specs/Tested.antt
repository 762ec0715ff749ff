-- What has been tested of a book's words and a record's bytes before a call is carried out, in the words of the tests and as plain bounds.
use Rattle.std.specs.Prelude.{◌≡◌, Bool, List, ℕ, ◌<◌, ℤ, length}
use Rattle.book_rules.specs.Record.{call_of, facility_of, service_of, record_number}
use Rattle.book_rules.specs.Words.{part, facility_place}
use Rattle.book_rules.specs.Refusals.{admission_number}
use Rattle.book_rules.specs.Book.{facilities_in, services_in}
use Rattle.judging.specs.Usable.{Usable}

-- Refusals 1 to 4.
pub record Tested (w : List ℤ) (b : List ℕ) : Type 0 where
  pub usable : Usable w
  pub is_taken : record_number b (facilities_in w) (services_in w) ≡ 0
  pub long : length b ≡ 112

-- What a call k has been tested for: that byte 5 is k, and that what it names lies in the book.
pub record Facility (w : List ℤ) (b : List ℕ) (k : ℕ) : Type 0 where
  pub tested : Tested w b
  pub call_is : call_of b ≡ k
  pub facility_in : facility_of b < facilities_in w

pub record Place (w : List ℤ) (b : List ℕ) (k : ℕ) : Type 0 where
  pub tested : Tested w b
  pub call_is : call_of b ≡ k
  pub facility_in : facility_of b < facilities_in w
  pub service_in : service_of b < services_in w

-- An offer that has passed 5, 9 and 10 as well.
pub record Admitted (w : List ℤ) (b : List ℕ) (k : ℕ) (refused : Bool) : Type 0 where
  pub place : Place w b k
  pub is_admitted : admission_number (part (facility_place (facility_of b)) 17 w) (service_of b) refused ≡ 0
