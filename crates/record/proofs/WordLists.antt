-- Word k of a record's words from byte `at` on.
use Rattle.std.proofs.Common.{◌≡◌, ◌∙◌, ap, ℕ, zero, suc, ◌+◌, ◌*◌, ◌<◌, List, get_or, arith}
use lib.IntN.{pos}
use Rattle.book_rules.specs.Record.{word_at, words_at}

pub word_of : (b : List ℕ) (at n k : ℕ) → k < n → word_at b (at + 4 * k) ≡ get_or (words_at b at n) k (pos 0)
unfolding words_at
word_of b at zero k h = absurd (omega arith)
word_of b at (suc n) zero h = ap (word_at b) (omega arith)
word_of b at (suc n) (suc k) h = ap (word_at b) (omega arith) ∙ word_of b (at + 4) n k (omega arith)
