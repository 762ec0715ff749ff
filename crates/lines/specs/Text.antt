-- The text of an answer. Document 01: "Each record .. prints number, word 0, sum, parted by one space."
-- A number's digits are those that the kit's `itoa` prints (proofs/Digits).
use Rattle.std.specs.Prelude.{cond, List, [], ◌∷◌, ◌++◌, ℕ, zero, suc, ◌^◌, ltb, ℤ, pos, negsuc}
use Rattle.io.specs.Digits.{last_digits, IsDigitCount}
use Rattle.offer_rules.specs.Numbers.{word}
use Rattle.book_rules.specs.Force.{Answer}

abbrev pub line_feed : ℕ
line_feed = 10

abbrev pub space : ℕ
space = 32

abbrev pub minus : ℕ
minus = 45

-- The least count of digits from k on that holds n, within so many tries.
unfoldable pub count_from : ℕ → ℕ → ℕ → ℕ
count_from zero k n = k
count_from (suc tries) k n = cond (ltb n (10 ^ k)) k (count_from tries (suc k) n)

-- How many digits n has.
unfoldable pub digit_count : ℕ → ℕ
digit_count n = count_from n 1 n

-- They are the fewest that hold n, and no fewer than one: as many as the kit's printing promises.
unfoldable pub CountIsFewest : Type 0
CountIsFewest = (n : ℕ) → IsDigitCount 10 1 n (digit_count n)

unfoldable pub decimal : ℕ → List ℕ
decimal n = last_digits 10 (digit_count n) n

-- A negative number has a minus sign before its size.
unfoldable pub signed_decimal : ℤ → List ℕ
signed_decimal (pos n) = decimal n
signed_decimal (negsuc n) = minus ∷ decimal (suc n)

-- "parted by one space": each number after a space.
unfoldable pub spaced : List ℤ → List ℕ
spaced [] = []
spaced (x ∷ rest) = space ∷ (signed_decimal x ++ spaced rest)

-- A number, words and a sum, and a line feed.
unfoldable pub text : ℕ → List ℤ → ℤ → List ℕ
text number words sum = decimal number ++ (spaced (words ++ (sum ∷ [])) ++ (line_feed ∷ []))

-- "number, word 0, sum, parted by one space"
unfoldable pub line : Answer → List ℕ
line a = text a.number (word a.words 0 ∷ []) a.sum

-- Number, all 24 words, sum.
unfoldable pub whole : Answer → List ℕ
whole a = text a.number a.words a.sum
