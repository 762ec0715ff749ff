-- The closure is called once for each word, and reads that one.
use Rattle.std.proofs.Common.{rules, ◌≡◌, ◌∙◌, sym, ◌+◌, ◌*◌, pos, arith}
use Rattle.units.proofs.OneByOne.{made}
use Rattle.book_rules.specs.Record.{word_at, words_at}
use Rattle.book_rules.proofs.Calls.{length_words}
use Rattle.record.proofs.WordLists.{word_of}
use Rattle.record.proofs.words_at.Goals as goal

pub returns : goal.returns
returns g c =
    let b = c.args.bytes.now in
    let at = c.args.at in
    let n = g.row.N in
    made _ _ (words_at b at n) (pos 0) (λ k y q h call.
    let read : y ≡ word_at b (at + 4 * k) = search rules in
    (search rules, read ∙ word_of b at n k (omega (arith, h, length_words b at n))))
    c.from_fn.result n (sym (length_words b at n)) c.from_fn.ensures.items
