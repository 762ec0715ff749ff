-- Records of 112 bytes, written from their fields.
use Rattle.std.specs.Prelude.{List, [], ◌∷◌, ◌++◌, ℕ, ◌+◌, ◌*◌, ◌-◌, ◌/◌, ◌%◌, ℤ, pos, negsuc, length, take, drop, replicate}
use Rattle.offer_rules.specs.Offer.{Pair}

-- A signed word's four bytes, most significant first.
unfoldable pub bits : ℤ → ℕ
bits (pos n) = n
bits (negsuc n) = 4294967295 - n

unfoldable pub four_bytes : ℕ → List ℕ
four_bytes n = n / 16777216 % 256 ∷ (n / 65536 % 256 ∷ (n / 256 % 256 ∷ (n % 256 ∷ [])))

abbrev pub word_bytes : ℤ → List ℕ
word_bytes z = four_bytes (bits z)

unfoldable pub all_bytes : List ℤ → List ℕ
all_bytes [] = []
all_bytes (x ∷ l) = word_bytes x ++ all_bytes l

-- Mark, version, call, facility, service; period word; reason; proportion and ramps all zero; A and B; W0 to W19, zero where not given.
unfoldable pub record_bytes : ℕ → ℕ → ℕ → ℤ → ℕ → ℤ → ℤ → List ℤ → List ℕ
record_bytes call facility service period reason a b ws =
    (83 ∷ 79 ∷ 66 ∷ 0 ∷ 1 ∷ call ∷ facility ∷ service ∷ [])
    ++ (word_bytes period ++ ((reason ∷ 0 ∷ 0 ∷ 0 ∷ []) ++ (replicate 8 0 ++ (word_bytes a ++ (word_bytes b ++ (all_bytes ws ++ replicate (80 - 4 * length ws) 0))))))

unfoldable pub pair_words : List Pair → List ℤ
pair_words [] = []
pair_words (x ∷ l) = x.price ∷ (x.quantity ∷ pair_words l)

-- Tenths of a MW at cents per MWh.
infix 90 ◌at◌
abbrev pub ◌at◌ : ℕ → ℕ → Pair
q at p = record { price = pos p; quantity = pos q }

abbrev pub clock : ℕ → List ℕ
clock minute = record_bytes 1 0 0 (pos 0) 0 (pos minute) (pos 0) []

-- W0 to W16: a kind, its generation and combined maxima, and its marks.
abbrev pub capability_words : ℕ → ℕ → ℕ → List ℤ → List ℤ
capability_words kind generation combined marks = pos kind ∷ (pos generation ∷ (pos combined ∷ (replicate 9 (pos 0) ++ marks)))

abbrev pub energy_mark : List ℤ
energy_mark = pos 1 ∷ replicate 4 (pos 0)

abbrev pub capability_of : List ℤ → List ℕ
capability_of w = record_bytes 2 0 0 (pos 0) 0 (pos 0) (pos 0) w

-- A generation facility registered for energy.
abbrev pub capability : ℕ → ℕ → List ℕ
capability generation combined = capability_of (capability_words 1 generation combined energy_mark)

abbrev pub standing_for : ℕ → ℕ → List Pair → List ℕ
standing_for service slot offer = record_bytes 3 0 service (pos slot) 0 (pos 0) (pos 0) (pair_words offer)

abbrev pub standing : ℕ → List Pair → List ℕ
standing = standing_for 0

-- A record with another byte at a place; with a reason; of another facility; with a proportion.
abbrev pub with_byte : ℕ → ℕ → List ℕ → List ℕ
with_byte i x r = take i r ++ (x ∷ drop (i + 1) r)

abbrev pub with_reason : ℕ → List ℕ → List ℕ
with_reason = with_byte 12

abbrev pub of_facility : ℕ → List ℕ → List ℕ
of_facility = with_byte 6

abbrev pub with_proportion : ℕ → List ℕ → List ℕ
with_proportion n r = with_byte 14 (n / 256) (with_byte 15 (n % 256) r)

-- A record with this ramp-up rate.
abbrev pub ramping : ℕ → List ℕ → List ℕ
ramping rate r = take 16 r ++ (word_bytes (pos rate) ++ drop 20 r)

abbrev pub variation_for : ℕ → ℕ → ℕ → List Pair → List ℕ
variation_for service period reason offer = record_bytes 4 0 service (pos period) reason (pos 0) (pos 0) (pair_words offer)

abbrev pub variation : ℕ → ℕ → List Pair → List ℕ
variation = variation_for 0

abbrev pub outage : ℕ → ℕ → List ℕ
outage minute count = record_bytes 5 0 0 (pos 0) 0 (pos minute) (pos count) []

abbrev pub notice : ℕ → ℕ → ℕ → List ℕ
notice kind first last = record_bytes 6 0 0 (pos 0) kind (pos first) (pos last) []

abbrev pub withdrawal : List ℕ
withdrawal = record_bytes 7 0 0 (pos 0) 5 (pos 0) (pos 0) []

abbrev pub look_up_for : ℕ → ℕ → List ℕ
look_up_for service period = record_bytes 8 0 service (pos period) 0 (pos 0) (pos 0) []

abbrev pub look_up : ℕ → List ℕ
look_up = look_up_for 0

abbrev pub total : ℕ → List ℕ
total period = record_bytes 9 0 0 (pos period) 0 (pos 0) (pos 0) []
