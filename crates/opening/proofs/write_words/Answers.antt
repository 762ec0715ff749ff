use Rattle.std.proofs.Common.{◌≡◌, ◌+◌, ◌*◌, pos, arith, rules}
use lib.ListN.{length-replicate}
use Rattle.offer_rules.specs.Numbers.{zeros}
use Rattle.book_rules.specs.Words.{book_size, empty_facilities, opening_head, opened}
use Rattle.book_rules.proofs.Opening.{length_facilities, length_head}
use Rattle.opening.proofs.LentParts.{lent_three}
use Rattle.opening.proofs.write_words.Goals as goal

pub returns : goal.returns
unfolding opened
returns c =
    let d = c.args.book.now in
    let F = c.args.sizes.facilities in
    let S = c.args.sizes.services in
    let limits = c.args.limits in
    let size = c.book_size-end in
    let cells = c.first_cell-cells.result in
    let end = size.result in
    let n : end ≡ 64 + 32 * F + 16128 * (F * S) = unfold book_size in size.ensures.value in
    let z : c.fill.new.self ≡ zeros (16128 * (F * S)) = search rules in
    rw (c.write_head.ensures, c.write_facilities.ensures, z, ← size.ensures.value)
    (lent_three d (opening_head F S limits) (empty_facilities F) (zeros (16128 * (F * S))) 64 cells end (length_head F S limits (search rules))
    (omega (arith, length_facilities F)) (omega (arith, length-replicate (16128 * (F * S)) (pos 0))))
