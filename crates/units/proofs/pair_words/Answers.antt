use Rattle.std.proofs.Common.{arith}
use Rattle.units.proofs.Chunks.{chunk_of_two, pairs_taken}
use Rattle.units.proofs.pair_words.Goals as goal

pub returns-clause-pairs : goal.returns-clause-pairs
returns-clause-pairs c =
    pairs_taken c.args.words.now c.as_chunks.result.0.now c.as_chunks.ensures.front_len
    (λ i h. rw c.as_chunks.ensures.front (chunk_of_two c.args.words.now _ i (omega (arith, h, c.as_chunks.ensures.front_len))))
