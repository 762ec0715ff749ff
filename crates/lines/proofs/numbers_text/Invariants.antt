use Rattle.std.proofs.Common.{◌≡◌, ◌+◌, ◌*◌, ◌≤◌, ◌++◌, take}
use Rattle.arrayvec.specs.ArrayString.{array_string_len}
use Rattle.lines.specs.Text.{decimal, spaced}
use Rattle.lines.proofs.numbers_text.Given as goal

-- the words passed are put, in 12 bytes each at most
abbrev pub invariant-loop-word : goal.invariant-loop-word
invariant-loop-word l =
    (array_string_len l.out ≤ 10 + 12 * l.word-index) × (l.out.bytes ≡ decimal l.fn.answer.number ++ spaced (take l.word-index l.words))
