use Rattle.std.proofs.Common.{◌≡◌, true, leb, length, arith, rules}
use mathlib.Core.Bool.{and_assoc}
use mir.Facts.{sfits_lit}
use borrow.Author.Tests.{le-leb}
use Rattle.offer_rules.specs.Numbers.{word}
use Rattle.book_rules.specs.Words.{book_mark, book_version, clock_place, is_book}
use Rattle.units.proofs.Counts.{word_back}
use Rattle.units.proofs.Signs.{eqb_bits}
use Rattle.opening.proofs.is_book.Goals as goal

pub returns : goal.returns
unfolding is_book
returns c =
    let w = c.args.book.now in
    let F = word_back (word w 2) (search rules) in
    let S = word_back (word w 3) (search rules) in
    let clock = word_back (word w clock_place) (search rules) in
    let mark = eqb_bits (word w 0) book_mark (search rules) (sfits_lit tt) in
    let version = eqb_bits (word w 1) book_version (search rules) (sfits_lit tt) in
    let long : leb 64 (length w) ≡ true = le-leb 64 (length w) (omega arith) in
    rw (mark, version, c.is_some.ensures, c.sizes_that_fit-sizes.ensures.fits, F, S, c.is_beyond.ensures, clock, long) (simp and_assoc)
