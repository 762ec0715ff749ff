-- What follows for the code where sizes, or a book's words, pass their test.
use Rattle.std.proofs.Common.{◌≡◌, true, not, ◌&&◌, ◌≤◌, List, ℤ, pos, negsuc, length, leb, arith}
use Rattle.std.proofs.lemmas.Bool.Decides.{nat_tests}
use borrow.Author.Tests.{not-true}
use Rattle.offer_rules.specs.Numbers.{to_nat, eq_z, word, beyond}
use Rattle.offer_rules.proofs.Drawn.{and_left, and_right}
use Rattle.offer_rules.proofs.Ranges.{count_within}
use Rattle.book_rules.specs.Record.{sizes_ok}
use Rattle.book_rules.specs.Book.{facilities_in, services_in}
use Rattle.book_rules.specs.Words.{book_size, book_mark, book_version, clock_place, is_book}
use Rattle.book_rules.proofs.OneCall.{room_in}

-- Sizes that are not refused.
pub record Counted (F S : ℤ) : Type 0 where
  pub most_f : to_nat F ≤ 64
  pub most_s : to_nat S ≤ 5

-- Words that refusal 1 doesn't turn down.
pub record BookWords (w : List ℤ) : Type 0 where
  pub book_fits : book_size (facilities_in w) (services_in w) ≤ length w
  pub most_f : facilities_in w ≤ 64
  pub most_s : services_in w ≤ 5
  pub most_clock : to_nat (word w clock_place) ≤ 1000000000

pub sized : (F S : ℤ) → sizes_ok F S ≡ true → Counted F S
unfolding sizes_ok
sized (negsuc F) (negsuc S) e = record { most_f = omega arith; most_s = omega arith }
sized (negsuc F) (pos S) e = record { most_f = omega arith; most_s = grind (arith, nat_tests) }
sized (pos F) (negsuc S) e = record { most_f = grind (arith, nat_tests); most_s = omega arith }
sized (pos F) (pos S) e = record { most_f = grind (arith, nat_tests); most_s = grind (arith, nat_tests) }

pub usable : (w : List ℤ) → is_book w ≡ true → BookWords w
unfolding is_book
usable w e =
    let head = leb 64 (length w) && (eq_z (word w 0) book_mark && eq_z (word w 1) book_version) in
    let sizes = sizes_ok (word w 2) (word w 3) in
    let room = leb (book_size (to_nat (word w 2)) (to_nat (word w 3))) (length w) in
    let late = beyond (pos 0) (pos 1000000000) (word w clock_place) in
    let s = sized (word w 2) (word w 3) (and_right head sizes (and_left (head && sizes) (room && not late) e)) in
    let t = count_within 1000000000 (word w clock_place) (not-true late (and_right room (not late) (and_right (head && sizes) (room && not late) e))) in
    record { book_fits = room_in w e; most_f = s.most_f; most_s = s.most_s; most_clock = t.1 }
