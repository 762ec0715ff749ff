-- Bytes of another length are no record.
use Rattle.std.proofs.Common.{◌≡◌, ◌≢◌, refl, ℕ, List, length}
use borrow.Author.Tests.{ne_eqb}
use Rattle.offer_rules.specs.Numbers.{draw, ◌then◌}
use Rattle.book_rules.specs.Record.{is_record, record_number}

pub other_length : (b : List ℕ) (F S : ℕ) → length b ≢ 112 → record_number b F S ≡ 2
unfolding record_number is_record draw ◌then◌
other_length b F S h = rw (ne_eqb (length b) 112 h) refl
