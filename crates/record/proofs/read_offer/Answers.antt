-- Three words are stored, the other twenty copied over.
use Rattle.std.proofs.Common.{◌≡◌, ◌∙◌, ap, refl, [], ◌∷◌, ◌+◌, ◌*◌, pos, arith}
use Rattle.book_rules.specs.Record.{byte, offer_in}
use Rattle.units.proofs.Counts.{word_back}
use Rattle.units.proofs.Copying.{first_and_rest}
use Rattle.record.proofs.read_offer.Goals as goal

pub returns : goal.returns
unfolding offer_in
returns c =
    let b = c.args.bytes.now in
    let p = c.from in
    let u = c.word_at in
    let d = c.word_at-2 in
    let proportion : p.result ≡ pos (byte b 14 * 256 + byte b 15) = p.ensures ∙ ap pos (omega (arith, c.from_be_bytes.ensures)) in
    first_and_rest c.args.words.now (_ ∷ (_ ∷ (_ ∷ []))) _ 3 20 refl c.told-words
    ∙ rw (word_back p.result p.type_inv, proportion, word_back u.result u.type_inv, u.ensures, word_back d.result d.type_inv, d.ensures, c.copy_array.ensures, c.words_at-pairs.ensures)
