use Rattle.std.proofs.Common.{◌≡◌, length, arith, rules}
use Rattle.offer_rules.specs.Numbers.{word}
use Rattle.book_rules.specs.Words.{limits_ok}
use Rattle.units.proofs.Counts.{word_back}
use Rattle.units.proofs.WordByWord.{beyond_in_part}
use Rattle.opening.proofs.limits_ok.Goals as goal

pub returns : goal.returns
unfolding limits_ok
returns c =
    let l = c.args.limits in
    let six : length l ≡ 6 = search rules in
    rw (c.any_beyond-beyond.ensures, six, c.any_beyond-negative.ensures, beyond_in_part _ _ l 1 5 (omega arith), word_back (word l 0) (search rules))
