use Rattle.std.proofs.Common.{◌≡◌, ◌∙◌, refl, List, ◌∷◌, [], ℕ, ℤ, pos, length, drop, arith, rules, w32}
use lib.ListN.{drop_of_length-le}
use mir.ValLaws.{to_z_pos}
use Rattle.offer_rules.specs.Numbers.{zeros}
use Rattle.book_rules.specs.Words.{book_mark, book_version, opening_head}
use Rattle.opening.proofs.LentParts.{lent_three}
use Rattle.opening.proofs.write_head.Goals as goal

-- words 0 to 10
abbrev leading_words : ℕ → ℕ → List ℤ
leading_words F S = book_mark ∷ book_version ∷ pos F ∷ pos S ∷ pos 0 ∷ pos 1 ∷ pos 0 ∷ pos 1 ∷ pos 0 ∷ pos 1 ∷ pos 0 ∷ []

pub returns : goal.returns
unfolding opening_head
returns c =
    let s = c.args.sizes in
    let d = c.args.head.now in
    let l = c.args.limits in
    let six : length l ≡ 6 = search rules in
    let x : c.copy_from_slice.new.self ≡ leading_words s.facilities s.services = c.copy_from_slice.ensures.after ∙ rw (to_z_pos w32 s.facilities (omega arith), to_z_pos w32 s.services (omega arith)) in
    let y : c.copy_from_slice-2.new.self ≡ l = c.copy_from_slice-2.ensures.after in
    let z : c.fill.new.self ≡ zeros 47 = search rules in
    let past : drop 64 d ≡ [] = drop_of_length-le d {i = 64} (omega arith) in
    rw (x, y, z)
    (lent_three d (leading_words s.facilities s.services) l (zeros 47) 11 17 64 refl (omega arith) refl
    ∙ rw past)
