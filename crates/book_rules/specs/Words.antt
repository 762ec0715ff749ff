-- Document 01, "The book's words": where each thing stands, the test of a book (refusal 1), and the opening (refusal 20).
use Rattle.std.specs.Prelude.{Bool, cond, not, ◌&&◌, List, [], ◌∷◌, ◌++◌, ℕ, zero, suc, ◌+◌, ◌*◌, ◌-◌, leb, eqb, ℤ, pos, negsuc, ◌+ℤ◌, ◌*ℤ◌, length, take, drop}
use Rattle.std.proofs.Math.Option.{Option, none, some}
use Rattle.std.specs.Int.Signed.{le_z, quot_z, rem_z}
use Rattle.offer_rules.specs.Numbers.{eq_z, to_nat, word, zeros, beyond, any_beyond, draw}
use Rattle.offer_rules.specs.Time.{last_minute, slots}
use Rattle.offer_rules.specs.Offer.{proportion, ramp_up, ramp_down, Held, most_ramp}
use Rattle.book_rules.specs.Record.{sizes_ok}

-- n words from a on.
unfoldable pub part : ℕ → ℕ → List ℤ → List ℤ
part a n w = take n (drop a w)

-- The words w, with c in the place of as many from a on.
unfoldable pub put : List ℤ → ℕ → List ℤ → List ℤ
put w a c = take a w ++ (c ++ drop (a + length c) w)

-- "It needs N = 64 + 32·F + 16,128·F·S words."
unfoldable pub book_size : ℕ → ℕ → ℕ
book_size F S = 64 + 32 * F + 16128 * (F * S)

-- "Head: 0 the mark 0x534F42; 1 version ..; 2 F; 3 S; 4 clock; 5–10 first and last of notices 3, 4, 5;
-- 11, 12 lowest and highest energy price; 13–16 highest price of services 1 to 4; the rest to 63 zero."
abbrev pub book_mark : ℤ
book_mark = pos 0x534F42

-- "The book's version, head word 1, becomes 2" (document 02).
abbrev pub book_version : ℤ
book_version = pos 2

abbrev pub clock_place : ℕ
clock_place = 4

-- 5, 7 and 9 for notices 3, 4 and 5.
abbrev pub notice_place : ℕ → ℕ
notice_place k = 2 * k - 1

abbrev pub limits_place : ℕ
limits_place = 11

-- "From 64, 32 words a facility: 0 kind (0: none); 1–16 W1 to W16; 17, 18 outage window; the rest zero."
abbrev pub facility_place : ℕ → ℕ
facility_place f = 64 + 32 * f

abbrev pub outage_place : ℕ → ℕ
outage_place f = facility_place f + 17

-- "Then cells of 24 words, numbered ((f·S + s)·2 + h)·336 + slot, h 0 standing, 1 variation"
abbrev pub cell_width : ℕ
cell_width = 24

unfoldable pub cell_place : ℕ → ℕ → ℕ → ℕ → ℕ → ℕ → ℕ
cell_place F S f s h slot = facility_place F + cell_width * (((f * S + s) * 2 + h) * slots + slot)

abbrev pub standing_half : ℕ
standing_half = 0

abbrev pub variation_half : ℕ
variation_half = 1

-- A cell: "0 stamp (0 empty, 1 standing, P + 1 variation), 1 proportion, .. 4–23 pairs";
-- "word 2 becomes ramp up times 10,000 plus ramp down, word 3 the minute" of acceptance (document 02).
abbrev pub ramp_unit : ℤ
ramp_unit = pos 10000

abbrev pub packed_ramps : ℤ → ℤ → ℤ
packed_ramps up down = up *ℤ ramp_unit +ℤ down

-- A stamp and a held offer as a cell's words.
unfoldable pub cell : ℕ → Held → List ℤ
cell stamp h = let o = h.offer in pos stamp ∷ (proportion o ∷ (packed_ramps (ramp_up o) (ramp_down o) ∷ (h.minute ∷ drop 3 o)))

-- The stamp and the held offer of a cell's words. "On a damaged word 2 the ramps are quotient and remainder rounded toward zero" (document 02).
abbrev pub cell_stamp : List ℤ → ℤ
cell_stamp c = word c 0

unfoldable pub cell_held : List ℤ → Held
cell_held c = record {
  offer = word c 1 ∷ (quot_z (word c 2) ramp_unit ∷ (rem_z (word c 2) ramp_unit ∷ drop 4 c));
  minute = word c 3;
}

-- Ramps that come back from word 2 as they went in: refusals 4 and 14 leave no others (proofs/Cells, offer-fits).
abbrev pub ramps_fit : List ℤ → Bool
ramps_fit o = not (any_beyond (pos 0) most_ramp o 1 2)

-- A cell that holds an offer under a stamp; where there is none to hold, "Its cell becomes 24 zeros" (document 02).
unfoldable pub holding : ℕ → Option Held → List ℤ
holding stamp none = zeros cell_width
holding stamp (some h) = cell stamp h

abbrev pub standing_stamp : ℕ
standing_stamp = 1

abbrev pub variation_stamp : ℕ → ℕ
variation_stamp p = p + 1

-- 1 "fewer than 64 words, mark or version wrong, F not 1 to 64, S not 1 or 5, fewer than N words, or clock outside 0 to 1,000,000,000"
unfoldable pub is_book : List ℤ → Bool
is_book w =
    ((leb 64 (length w) && (eq_z (word w 0) book_mark && eq_z (word w 1) book_version)) && sizes_ok (word w 2) (word w 3))
    && (leb (book_size (to_nat (word w 2)) (to_nat (word w 3))) (length w) && not (beyond (pos 0) (pos last_minute) (word w clock_place)))

-- ---- the opening

-- 20 "a limit beyond ±10,000,000, or not lowest ≤ 0 ≤ highest; 0 ≤ highest for services 1–4"; the six limits are head words 11 to 16
unfoldable pub limits_ok : List ℤ → Bool
limits_ok l = not (any_beyond (negsuc 9999999) (pos 10000000) l 0 6) && (le_z (word l 0) (pos 0) && not (any_beyond (pos 0) (pos 10000000) l 1 5))

-- 20 "F, S wrong, words too few"
unfoldable pub opening_number : List ℤ → ℤ → ℤ → List ℤ → ℕ
opening_number w F S limits = draw (not ((sizes_ok F S && leb (book_size (to_nat F) (to_nat S)) (length w)) && limits_ok limits)) 20

-- "all windows 1 to 0 (empty)"
unfoldable pub empty_facility : List ℤ
empty_facility = zeros 17 ++ (pos 1 ∷ (pos 0 ∷ zeros 13))

unfoldable pub empty_facilities : ℕ → List ℤ
empty_facilities zero = []
empty_facilities (suc n) = empty_facility ++ empty_facilities n

unfoldable pub opening_head : ℕ → ℕ → List ℤ → List ℤ
opening_head F S limits =
    (book_mark ∷ book_version ∷ pos F ∷ pos S ∷ pos 0 ∷ pos 1 ∷ pos 0 ∷ pos 1 ∷ pos 0 ∷ pos 1 ∷ pos 0 ∷ []) ++ (limits ++ zeros 47)

-- "Opening writes words 0 to N − 1: mark, version, F and S as above, clock 0, all windows 1 to 0 (empty), given limits, else zero."
unfoldable pub opened : ℕ → ℕ → List ℤ → List ℤ → List ℤ
opened F S limits past = opening_head F S limits ++ (empty_facilities F ++ (zeros (16128 * (F * S)) ++ past))

-- The words afterwards: those from N on stay, and a refused opening writes none.
unfoldable pub opening_words : List ℤ → ℤ → ℤ → List ℤ → List ℤ
opening_words w F S limits =
    cond (eqb (opening_number w F S limits) 0) (opened (to_nat F) (to_nat S) limits (drop (book_size (to_nat F) (to_nat S)) w)) w
