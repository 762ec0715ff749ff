-- Document 01, "The record", and the test of it that the gateway calls ("Parts"): refusals 2, 3 and 4.
use Rattle.std.specs.Prelude.{Bool, false, cond, not, ◌&&◌, ◌||◌, List, [], ◌∷◌, ℕ, zero, suc, ◌+◌, ◌*◌, ◌-◌, leb, ltb, eqb, ℤ, pos, negsuc, length, get_or, drop}
use Rattle.std.specs.Int.Signed.{le_z}
use Rattle.offer_rules.specs.Numbers.{eq_z, to_nat, between, draw, ◌then◌}

abbrev pub byte : List ℕ → ℕ → ℕ
byte b i = get_or b i 0

-- "Words are signed 32-bit, most significant byte first."
unfoldable pub signed : ℕ → ℤ
signed n = cond (ltb n 0x80000000) (pos n) (negsuc (0xffffffff - n))

unfoldable pub word_at : List ℕ → ℕ → ℤ
word_at b i = signed (((byte b i * 256 + byte b (i + 1)) * 256 + byte b (i + 2)) * 256 + byte b (i + 3))

unfoldable pub words_at : List ℕ → ℕ → ℕ → List ℤ
words_at b i zero = []
words_at b i (suc n) = word_at b i ∷ words_at b (i + 4) n

-- "Bytes 0–2 SOB; 3–4 version 1; 5 call; 6 facility; 7 service; 8–11 period word; 12 reason; 13 zero; 14–15 proportion (0 to 65,535);
-- 16–19 ramp up; 20–23 ramp down; 24–27 A; 28–31 B; 32–111 words W0 to W19, in offers ten pairs (price, quantity)."
abbrev pub call_of : List ℕ → ℕ
call_of b = byte b 5

abbrev pub facility_of : List ℕ → ℕ
facility_of b = byte b 6

abbrev pub service_of : List ℕ → ℕ
service_of b = byte b 7

abbrev pub period_word : List ℕ → ℤ
period_word b = word_at b 8

abbrev pub reason_of : List ℕ → ℕ
reason_of b = byte b 12

abbrev pub word_a : List ℕ → ℤ
word_a b = word_at b 24

abbrev pub word_b : List ℕ → ℤ
word_b b = word_at b 28

-- W0 to W16.
unfoldable pub capability_in : List ℕ → List ℤ
capability_in b = words_at b 32 17

-- "An offer's words 1–23 are what its call carried: proportion, ramps, pairs, else zero", as a look-up shows them. Where a record passes refusal 4, what its service doesn't use is zero.
unfoldable pub offer_in : List ℕ → List ℤ
offer_in b = pos (byte b 14 * 256 + byte b 15) ∷ (word_at b 16 ∷ (word_at b 20 ∷ words_at b 32 20))

-- ---- "The nine calls and what they use", from byte 6 on

-- "An offer for service 0 uses both ramps and ten pairs; for 1 to 3 the proportion and five pairs; for 4 five pairs."
unfoldable pub used_by_offer : ℕ → ℕ → Bool
used_by_offer s i =
    cond (eqb s 0) (between 16 23 i || between 32 111 i) ((ltb s 4 && between 14 15 i) || between 32 71 i)

-- "4 variation: the same with P for the slot, and reason"; "Call 3 now uses byte 12 for a reason" (document 02), and so the same as call 4.
unfoldable pub used : ℕ → ℕ → ℕ → Bool
used k s i =
    cond (eqb k 1) (between 24 27 i)
    (cond (eqb k 2) (eqb i 6 || between 32 99 i)
    (cond (eqb k 3 || eqb k 4) (between 6 12 i || used_by_offer s i)
    (cond (eqb k 5) (eqb i 6 || between 24 31 i)
    (cond (eqb k 6) (eqb i 12 || between 24 31 i)
    (cond (eqb k 7) (eqb i 12)
    (cond (eqb k 8) (between 6 11 i)
    (cond (eqb k 9) (between 7 11 i) false)))))))

abbrev pub uses : List ℕ → ℕ → Bool
uses b i = used (call_of b) (service_of b) i

-- ---- the refusals

-- 2 "not 112 bytes, or mark, version or call wrong"
unfoldable pub is_record : List ℕ → Bool
is_record b =
    (eqb (length b) 112 && ((eqb (byte b 0) 83 && eqb (byte b 1) 79) && eqb (byte b 2) 66))
    && ((eqb (byte b 3) 0 && eqb (byte b 4) 1) && between 1 9 (call_of b))

-- 3 "facility ≥ F or service ≥ S, where used"
unfoldable pub outside : List ℕ → ℕ → ℕ → Bool
outside b F S = (uses b 6 && leb F (facility_of b)) || (uses b 7 && leb S (service_of b))

-- 4 "an unused byte not zero"
unfoldable pub any_stray : (ℕ → Bool) → ℕ → List ℕ → Bool
any_stray is_used i [] = false
any_stray is_used i (x ∷ l) = (not (eqb x 0) && not (is_used i)) || any_stray is_used (suc i) l

unfoldable pub has_stray : List ℕ → Bool
has_stray b = any_stray (used (call_of b) (service_of b)) 6 (drop 6 b)

unfoldable pub record_number : List ℕ → ℕ → ℕ → ℕ
record_number b F S = draw (not (is_record b)) 2 then draw (outside b F S) 3 then draw (has_stray b) 4

-- "F not 1 to 64, S not 1 or 5"
unfoldable pub sizes_ok : ℤ → ℤ → Bool
sizes_ok F S = (le_z (pos 1) F && le_z F (pos 64)) && (eq_z S (pos 1) || eq_z S (pos 5))

-- "the record test (2, 3, 4 from the bytes, F and S) ..; ahead of these it gives 20 where F isn't 1 to 64 or S isn't 1 or 5"
unfoldable pub record_test : List ℕ → ℤ → ℤ → ℕ
record_test b F S = draw (not (sizes_ok F S)) 20 then record_number b (to_nat F) (to_nat S)
