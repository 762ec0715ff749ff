-- Lines worked out: one of document 01's output, and the longest there are.
use Rattle.std.specs.Prelude.{◌≡◌, [], ◌∷◌, pos, negsuc, length, replicate}
use Rattle.lines.specs.Text.{text}

-- "0 3 700", of the look-up of period 4
unfoldable pub LookUpLine : Type 0
LookUpLine = text 0 (pos 3 ∷ []) (pos 700) ≡ 48 ∷ (32 ∷ (51 ∷ (32 ∷ (55 ∷ (48 ∷ (48 ∷ (10 ∷ [])))))))

-- The largest number, the smallest words, the smallest sum: 44 bytes, and 320 with 24 words. No text is longer (`line_text`, `whole_text`).
unfoldable pub LongestLine : Type 0
LongestLine = length (text 4294967295 (negsuc 2147483647 ∷ []) (negsuc 9223372036854775807)) ≡ 44

unfoldable pub LongestWhole : Type 0
LongestWhole = length (text 4294967295 (replicate 24 (negsuc 2147483647)) (negsuc 9223372036854775807)) ≡ 320
