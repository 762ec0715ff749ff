-- The cases marked (p), those of document 02's requests, and some at the edges of numbers and fields, most of which no claim speaks of, as one table with one statement.
use Rattle.std.specs.Prelude.{◌≡◌, true, false, List, [], ◌∷◌, ◌++◌, ℕ, ◌+◌, ℤ, pos, negsuc, get_or, drop, replicate}
use Rattle.offer_rules.specs.Numbers.{word, zeros}
use Rattle.offer_rules.specs.Time.{next_period}
use Rattle.offer_rules.specs.Offer.{Pair}
use Rattle.offer_rules.specs.Gate.{same_prices_to}
use Rattle.book_rules.specs.Words.{part, put, facility_place, outage_place, cell_place, standing_half, variation_half, standing_stamp, opening_number, opening_words}
use Rattle.book_rules.specs.Force.{Answer}
use Rattle.book_rules.specs.Book.{book_answer, book_run}
use Rattle.cases.specs.Records.{◌at◌, pair_words, clock, capability_words, energy_mark, capability_of, capability, standing_for, standing, with_byte, with_reason, of_facility, with_proportion, ramping, variation_for, variation, outage, notice, withdrawal, look_up_for, look_up, total}

-- "a book of 16,224 words, all zero before opening, F 1, S 1, energy −4,500.00 to 4,500.00, others to 4,500.00"
abbrev pub limits : List ℤ
limits = negsuc 449999 ∷ (pos 450000 ∷ (pos 450000 ∷ (pos 450000 ∷ (pos 450000 ∷ (pos 450000 ∷ [])))))

abbrev pub opened_book : List ℤ
opened_book = opening_words (replicate 16224 (pos 0)) (pos 1) (pos 1) limits

-- One for five services, of 80,736 words, each with a highest price of its own; and one for two facilities.
abbrev pub wide_book : List ℤ
wide_book = opening_words (replicate 80736 (pos 0)) (pos 1) (pos 5) (negsuc 449999 ∷ (pos 450000 ∷ (pos 100 ∷ (pos 200 ∷ (pos 300 ∷ (pos 400 ∷ []))))))

abbrev pub pair_book : List ℤ
pair_book = opening_words (replicate 32384 (pos 0)) (pos 2) (pos 1) limits

-- What the program prints of an answer: number, word 0, sum.
pub record Line : Type 0 where
  pub number : ℕ
  pub word_0 : ℤ
  pub sum : ℤ

abbrev pub line_of : Answer → Line
line_of a = record { number = a.number; word_0 = word a.words 0; sum = a.sum }

abbrev pub reads : ℕ → ℕ → ℕ → Line
reads n w z = record { number = n; word_0 = pos w; sum = pos z }

-- On a book, after the calls before it, the last call is answered so.
pub record Case : Type 0 where
  pub book : List ℤ
  pub before : List (List ℕ)
  pub last : List ℕ
  pub answered : Line

unfoldable pub answer_in : Case → Line
answer_in c = line_of (book_answer (book_run c.book c.before) c.last)

-- The last call passes, or draws a number.
abbrev passes : Line
passes = reads 0 0 0

abbrev draws : ℕ → Line
draws n = reads n 0 0

abbrev plant : List ℕ
plant = capability 1300 800

abbrev stands : List ℕ
stands = standing 4 (500 at 4000 ∷ (200 at 5000 ∷ []))

-- "Old 50.0 at 40.00, 20.0 at 50.00, gate shut, reason 4, notice 4 covers P", by a facility of this capability
abbrev shut_for : List ℕ → List (List ℕ)
shut_for capability = capability ∷ (stands ∷ (notice 4 4 4 ∷ (clock 56 ∷ [])))

-- A variation without a pair that isn't blank.
abbrev blank : ℕ → List ℕ
blank reason = variation 4 reason []

-- A variation at the standing offer's price, without a standing offer and with one; then "gate shut", and an outage that covers P.
abbrev varied : List (List ℕ)
varied = plant ∷ (variation 4 0 (300 at 4000 ∷ []) ∷ [])

abbrev both : List (List ℕ)
both = plant ∷ (stands ∷ (variation 4 0 (300 at 4000 ∷ []) ∷ []))

abbrev tripped : List (List ℕ)
tripped = clock 56 ∷ (outage 56 3 ∷ [])

-- A link, registered for energy; and its words as only a damaged book has them: every mark set, an outage over periods 0 to 99.
abbrev link : List ℕ
link = capability_of (capability_words 3 1300 800 energy_mark)

abbrev damaged_link : List ℤ → List ℤ
damaged_link w = put w (facility_place 0) (capability_words 3 1300 800 (replicate 5 (pos 1)) ++ (pos 0 ∷ (pos 99 ∷ [])))

-- A standing cell of slot 4 with these words 2 and 3, as a host wrote them; a highest ramp up of 2,000.0 MW/min.
abbrev damaged_cell : ℤ → ℤ → List ℤ
damaged_cell ramps minute = put opened_book (cell_place 1 1 0 0 standing_half 4) (pos standing_stamp ∷ (pos 0 ∷ (ramps ∷ (minute ∷ []))))

abbrev damaged_maximum : List ℤ
damaged_maximum = put (book_run opened_book (plant ∷ [])) (facility_place 0 + 7) (pos 20000 ∷ [])

-- From a book whose standing cell of slot 4 has these pairs, as only a host writes it, or an older library left it; the plant's capability is filed.
abbrev with_held : List Pair → List (List ℕ) → List ℕ → Line → Case
with_held offer calls call line =
    record { book = put opened_book (cell_place 1 1 0 0 standing_half 4) ((pos standing_stamp ∷ zeros 3) ++ pair_words offer); before = plant ∷ calls; last = call; answered = line }

-- 50.0 at 40.00, a blank, 20.0 at 50.00; and −1.0 at 40.00, 3.0 at 50.00.
abbrev with_middle_blank : List (List ℕ) → List ℕ → Line → Case
with_middle_blank = with_held (500 at 4000 ∷ (0 at 0 ∷ (200 at 5000 ∷ [])))

abbrev with_negative : List (List ℕ) → List ℕ → Line → Case
with_negative = with_held (record { price = pos 4000; quantity = negsuc 9 } ∷ (30 at 5000 ∷ []))

-- Most rows start from the opened book: the calls before, the last call, its answer.
abbrev row : List (List ℕ) → List ℕ → Line → Case
row calls call line = record { book = opened_book; before = calls; last = call; answered = line }

-- A facility of this kind with maxima of its own for each service, class and ramp, registered for services by these marks; and offers on the book of five services.
abbrev of_all : ℕ → List ℤ → List ℕ
of_all kind marks =
    capability_of (pos kind ∷ (pos 1300 ∷ (pos 800 ∷ (pos 10 ∷ (pos 20 ∷ (pos 30 ∷ (pos 40 ∷ (pos 9999 ∷ (pos 9998 ∷ (pos 1000 ∷ (pos 900 ∷ (pos 800 ∷ marks))))))))))))

abbrev all_marks : List ℤ
all_marks = replicate 5 (pos 1)

abbrev reserve_marks : List ℤ
reserve_marks = pos 0 ∷ (pos 1 ∷ (pos 1 ∷ (pos 1 ∷ (pos 0 ∷ []))))

abbrev wide : List (List ℕ) → List ℕ → Line → Case
wide calls call line = record { book = wide_book; before = calls; last = call; answered = line }

abbrev in_wide : List ℕ → Line → Case
in_wide = wide (of_all 1 all_marks ∷ [])

-- 2.0 MW of service 2 at 2.00, the most that it may be.
abbrev secondary : ℕ → List ℕ
secondary proportion = with_proportion proportion (standing_for 2 4 (20 at 200 ∷ []))

-- Two facilities, the second with the first's capability.
abbrev two : List (List ℕ) → List ℕ → Line → Case
two calls call line = record { book = pair_book; before = plant ∷ (of_facility 1 plant ∷ calls); last = call; answered = line }

-- `stands` is held, notices 4 and 5 are for period 4, and the gate is shut; a variation of 10.0 MW more with a reason.
abbrev noticed : List (List ℕ) → ℕ → Line → Case
noticed calls reason = row ((plant ∷ (stands ∷ (notice 4 4 4 ∷ (notice 5 4 4 ∷ (clock 56 ∷ []))))) ++ calls) (variation 4 reason (500 at 4000 ∷ (300 at 5000 ∷ [])))

-- A slot's standing offer, and at a minute another over it.
abbrev revised : ℕ → ℕ → Line → Case
revised slot minute = row (plant ∷ (standing slot (700 at 4000 ∷ []) ∷ (clock minute ∷ []))) (standing slot (600 at 4000 ∷ []))

-- `stands` is held, then these calls; the gate of slot 4 is shut, and an outage covers period 4: pairs are filed over it with a reason.
abbrev over_stands : List (List ℕ) → ℕ → List Pair → Line → Case
over_stands calls reason offer = row ((plant ∷ (stands ∷ calls)) ++ tripped) (with_reason reason (standing 4 offer))

-- `stands` is held and a notice of kind 4 is for one period: at a minute 10.0 MW are added at its last price.
abbrev added_to_stands : ℕ → ℕ → Line → Case
added_to_stands period minute =
    row (plant ∷ (stands ∷ (notice 4 period period ∷ (clock minute ∷ [])))) (with_reason 4 (standing 4 (500 at 4000 ∷ (300 at 5000 ∷ []))))

abbrev pub first_case : Case
first_case = row (plant ∷ []) (standing 4 (1300 at 4000 ∷ [])) (draws 16)

abbrev pub cases : List Case
cases =
    -- "Totals 130.0 against 130.0 and 80.0: 16." "70.0: passes."
    first_case
    ∷ row (plant ∷ []) (standing 4 (700 at 4000 ∷ [])) passes
    -- "Prices 50.00, 40.00: 13." "40.00, 50.00: passes."
    ∷ row (plant ∷ []) (standing 4 (100 at 5000 ∷ (100 at 4000 ∷ []))) (draws 13)
    ∷ row (plant ∷ []) (standing 4 (100 at 4000 ∷ (100 at 5000 ∷ []))) passes
    -- "50.0 at 100.00 then 0.0 at 0.00: passes." "0.0 at 50.00: 12.", alone and after another pair
    ∷ row (plant ∷ []) (standing 4 (500 at 10000 ∷ (0 at 0 ∷ []))) passes
    ∷ row (plant ∷ []) (standing 4 (0 at 5000 ∷ [])) (draws 12)
    ∷ row (plant ∷ []) (standing 4 (500 at 4000 ∷ (0 at 5000 ∷ []))) (draws 12)
    -- "now 55, P 4: 65 left, open. .. now 56: 17 without reason. .. now 120: 10."
    ∷ row (plant ∷ (clock 55 ∷ [])) (variation 4 0 (300 at 4000 ∷ [])) passes
    ∷ row (plant ∷ (clock 56 ∷ [])) (variation 4 0 (300 at 4000 ∷ [])) (draws 17)
    ∷ row (plant ∷ (clock 120 ∷ [])) (variation 4 0 (300 at 4000 ∷ [])) (draws 10)
    -- "second pair 30.0 passes; .. 45.0 and 30.0: 17, the 451st tenth differs."
    ∷ row (shut_for plant) (variation 4 4 (500 at 4000 ∷ (300 at 5000 ∷ []))) passes
    ∷ row (shut_for plant) (variation 4 4 (450 at 4000 ∷ (300 at 5000 ∷ []))) (draws 17)
    -- Taken back before closure: the look-up then answers the standing offer, and 19 where there is none.
    ∷ row both (blank 0) passes
    ∷ row (both ++ (blank 0 ∷ [])) (look_up 4) (reads 0 3 700)
    ∷ row (varied ++ (blank 0 ∷ [])) (look_up 4) (draws 19)
    -- Inside the gate: with reason 2, the outage covering P and prices kept; without a reason 17.
    ∷ row (both ++ tripped) (blank 2) passes
    ∷ row (both ++ tripped) (blank 0) (draws 17)
    ∷ row (both ++ (tripped ++ (blank 2 ∷ []))) (look_up 4) (reads 0 1 700)
    ∷ row (varied ++ (tripped ++ (blank 2 ∷ []))) (look_up 4) (draws 19)
    -- What it is compared with is the standing offer: 30.0 at 45.00 against 40.00.
    ∷ row ((plant ∷ (stands ∷ (variation 4 0 (300 at 4500 ∷ []) ∷ []))) ++ tripped) (blank 2) (draws 17)
    -- "A blank standing offer still means zero MW": it is in force and counted.
    ∷ row (plant ∷ (standing 4 [] ∷ [])) (look_up 4) (reads 0 3 0)
    ∷ row (plant ∷ (standing 4 [] ∷ [])) (total 4) (reads 0 1 0)
    -- A link: "Its capability record may have mark 0 only, else 8"
    ∷ row [] link passes
    ∷ row [] (capability_of (capability_words 3 1300 800 (replicate 4 (pos 0) ++ (pos 1 ∷ [])))) (draws 8)
    -- "unlike a held 1 or 2", or 3
    ∷ row (link ∷ []) plant (draws 8)
    ∷ row (plant ∷ []) link (draws 8)
    -- "An outage call for it is refused with 7"
    ∷ row (link ∷ (clock 56 ∷ [])) (outage 56 3) (draws 7)
    -- "Reasons 3, 4 and 5 are open to it; 1, 2 and 6 are not": 2 and 6 are shut to it also where a damaged book has an outage over P
    ∷ row (shut_for link) (variation 4 4 (500 at 4000 ∷ (300 at 5000 ∷ []))) passes
    ∷ row (shut_for link) (variation 4 1 (500 at 4000 ∷ (300 at 5000 ∷ []))) (draws 17)
    ∷ row (shut_for link) (variation 4 2 (500 at 4000 ∷ (300 at 5000 ∷ []))) (draws 17)
    ∷ record { book = damaged_link opened_book; before = clock 56 ∷ []; last = variation 4 2 (300 at 4000 ∷ []); answered = draws 17 }
    ∷ record { book = damaged_link opened_book; before = clock 56 ∷ []; last = variation 4 6 (300 at 4000 ∷ []); answered = draws 17 }
    -- "It offers energy only: refusal 9 also covers its offers for services 1 to 4", where a damaged book has the mark too; a look-up draws 19
    ∷ row (link ∷ (stands ∷ [])) (look_up 4) (reads 0 3 700)
    ∷ record { book = wide_book; before = link ∷ []; last = standing_for 1 4 (100 at 4000 ∷ []); answered = draws 9 }
    ∷ record { book = damaged_link wide_book; before = []; last = standing_for 1 4 (100 at 4000 ∷ []); answered = draws 9 }
    ∷ record { book = wide_book; before = link ∷ []; last = look_up_for 1 4; answered = draws 19 }
    -- Ramps bind its energy, here against 0.0 MW/min, and both maxima: 130.0 against 130.0 and 80.0.
    ∷ row (link ∷ []) (ramping 1 (standing 4 (700 at 4000 ∷ []))) (draws 14)
    ∷ row (link ∷ []) (standing 4 (1300 at 4000 ∷ [])) (draws 16)
    -- "3 for standing and 4 for variation while now minus that minute is below 5": 4 minutes after acceptance, and 5
    ∷ row (plant ∷ (clock 10 ∷ (stands ∷ (clock 14 ∷ [])))) (look_up 4) (reads 0 3 700)
    ∷ row (plant ∷ (clock 10 ∷ (stands ∷ (clock 15 ∷ [])))) (look_up 4) (reads 0 1 700)
    ∷ row (both ++ (clock 4 ∷ [])) (look_up 4) (reads 0 4 300)
    ∷ row (both ++ (clock 5 ∷ [])) (look_up 4) (reads 0 2 300)
    -- The minute is whole, not the day's.
    ∷ row (plant ∷ (clock 1445 ∷ (stands ∷ (clock 1449 ∷ [])))) (look_up 340) (reads 0 3 700)
    -- By the offer in force alone, whichever was accepted later.
    ∷ row (plant ∷ (stands ∷ (clock 5 ∷ (variation 4 0 (300 at 4000 ∷ []) ∷ [])))) (look_up 4) (reads 0 4 300)
    ∷ row (varied ++ (clock 5 ∷ (stands ∷ []))) (look_up 4) (reads 0 2 300)
    -- A variation filed again is fresh again; a standing offer draws 18, whatever its minute, and 18 leaves the minute.
    ∷ row (varied ++ (clock 5 ∷ varied)) (look_up 4) (reads 0 4 300)
    ∷ row (plant ∷ (stands ∷ (clock 5 ∷ []))) stands (draws 18)
    ∷ row (plant ∷ (stands ∷ (clock 5 ∷ (stands ∷ [])))) (look_up 4) (reads 0 1 700)
    -- After a take-back the standing offer's own minute counts.
    ∷ row (plant ∷ (stands ∷ (clock 5 ∷ (variation 4 0 (300 at 4000 ∷ []) ∷ (blank 0 ∷ []))))) (look_up 4) (reads 0 1 700)
    -- A damaged minute later than now is below 5, and one far before it isn't.
    ∷ record { book = damaged_cell (pos 0) (pos 1000); before = plant ∷ []; last = look_up 4; answered = reads 0 3 0 }
    ∷ record { book = damaged_cell (pos 0) (negsuc 2147483647); before = plant ∷ []; last = look_up 4; answered = reads 0 1 0 }
    -- 14 "also covers a ramp above 9,999", where only a damaged maximum lets one come
    ∷ record { book = damaged_maximum; before = []; last = ramping 9999 stands; answered = passes }
    ∷ record { book = damaged_maximum; before = []; last = ramping 10000 stands; answered = draws 14 }
    -- Another ramp is no duplicate; the same ramp is.
    ∷ record { book = damaged_maximum; before = stands ∷ []; last = ramping 7 stands; answered = passes }
    ∷ record { book = damaged_maximum; before = ramping 7 stands ∷ []; last = ramping 7 stands; answered = draws 18 }
    -- "The book's version, head word 1, becomes 2": a book of version 1 is refused.
    ∷ record { book = put opened_book 1 (pos 1 ∷ []); before = []; last = plant; answered = draws 1 }
    ∷ record { book = put opened_book 1 (pos 2 ∷ []); before = []; last = plant; answered = passes }
    ∷ record { book = put opened_book 1 (pos 3 ∷ []); before = []; last = plant; answered = draws 1 }
    -- 17 of a standing offer over a held one, by "the slot's next period not yet begun", "at slot boundaries as well": in the minute before a period, and in its first
    ∷ revised 4 119 (draws 17)
    ∷ revised 4 120 passes
    ∷ revised 0 0 passes
    ∷ revised 335 10049 (draws 17)
    ∷ revised 335 10050 passes
    -- "Call 3 now uses byte 12 for a reason": slot 4 at minute 56, over a held offer: without one, with 2 in the outage window and prices kept, and where a tenth's differs
    ∷ over_stands [] 0 (500 at 4000 ∷ []) (draws 17)
    ∷ over_stands [] 2 (500 at 4000 ∷ []) passes
    ∷ over_stands [] 2 (450 at 4000 ∷ (250 at 5000 ∷ [])) (draws 17)
    ∷ row ((plant ∷ (stands ∷ [])) ++ (tripped ++ (with_reason 2 (standing 4 (500 at 4000 ∷ [])) ∷ []))) (look_up 4) (reads 0 3 500)
    -- "refusal 11 covers it": also of one that the gate would pass
    ∷ over_stands [] 7 (500 at 4000 ∷ []) (draws 11)
    ∷ row (plant ∷ []) (with_reason 7 stands) (draws 11)
    -- Byte 12 alone "leaves the unused bytes": 13 stays unused in both offers.
    ∷ row (plant ∷ []) (with_byte 13 1 stands) (draws 4)
    ∷ row (plant ∷ []) (with_byte 13 1 (variation 4 0 (300 at 4000 ∷ []))) (draws 4)
    -- "A first one always passes the gate", whatever its reason; so does an open one.
    ∷ row (plant ∷ (clock 56 ∷ [])) (with_reason 6 stands) passes
    ∷ row (plant ∷ (stands ∷ (clock 55 ∷ []))) (with_reason 6 (standing 4 (300 at 4500 ∷ []))) passes
    -- 17 before 18: the held offer again, without a reason and with one that holds
    ∷ over_stands [] 0 (500 at 4000 ∷ (200 at 5000 ∷ [])) (draws 17)
    ∷ over_stands [] 2 (500 at 4000 ∷ (200 at 5000 ∷ [])) (draws 18)
    -- "old is the held standing offer", where a variation at 45.00 is in force
    ∷ over_stands (variation 4 0 (300 at 4500 ∷ []) ∷ []) 2 (500 at 4000 ∷ []) passes
    ∷ over_stands (variation 4 0 (300 at 4500 ∷ []) ∷ []) 2 (300 at 4500 ∷ []) (draws 17)
    -- A blank one has total 0: for an outage, and for a surplus, which asks for a total below the old one.
    ∷ over_stands [] 2 [] passes
    ∷ row (plant ∷ (stands ∷ (notice 3 4 4 ∷ (clock 56 ∷ [])))) (with_reason 3 (standing 4 [])) passes
    ∷ row (plant ∷ (standing 4 [] ∷ (notice 3 4 4 ∷ (clock 56 ∷ [])))) (with_reason 3 (standing 4 (100 at 4000 ∷ []))) (draws 17)
    -- "P is the slot's next period not yet begun": 4, then 340; slot 0 late on Sunday looks to 336
    ∷ added_to_stands 4 56 passes
    ∷ added_to_stands 4 10136 (draws 17)
    ∷ added_to_stands 340 10136 passes
    ∷ row (plant ∷ (standing 0 (700 at 4000 ∷ []) ∷ (clock 10020 ∷ (outage 10020 3 ∷ [])))) (with_reason 2 (standing 0 (600 at 4000 ∷ []))) passes
    -- A link's: 4 is open to it, 1 is not.
    ∷ row (shut_for link) (with_reason 4 (standing 4 (500 at 4000 ∷ (300 at 5000 ∷ [])))) passes
    ∷ row (shut_for link) (with_reason 1 (standing 4 (500 at 4000 ∷ (300 at 5000 ∷ [])))) (draws 17)
    -- 12 "also applies where a blank pair stands before a non-blank one": before the first, in a variation too, which then takes nothing back; between two, also where 13
    -- would apply; 11 comes first
    ∷ row (plant ∷ []) (standing 4 (0 at 0 ∷ (300 at 4000 ∷ []))) (draws 12)
    ∷ row both (variation 4 0 (0 at 0 ∷ (300 at 4000 ∷ []))) (draws 12)
    ∷ row (plant ∷ []) (standing 4 (100 at 4000 ∷ (0 at 0 ∷ (100 at 5000 ∷ [])))) (draws 12)
    ∷ row (plant ∷ []) (standing 4 (100 at 5000 ∷ (0 at 0 ∷ (100 at 4000 ∷ [])))) (draws 12)
    ∷ row (plant ∷ []) (standing 4 (100 at 4000 ∷ (0 at 0 ∷ (100 at 450001 ∷ [])))) (draws 11)
    -- "all non-blank pairs come first": blanks last pass, and so do blanks alone.
    ∷ row (plant ∷ []) (standing 4 (500 at 4000 ∷ (200 at 5000 ∷ (0 at 0 ∷ (0 at 0 ∷ []))))) passes
    ∷ row (plant ∷ []) (standing 4 (0 at 0 ∷ (0 at 0 ∷ []))) passes
    ∷ row (plant ∷ []) (variation 4 0 (0 at 0 ∷ (0 at 0 ∷ []))) passes
    -- "Offers already held are not tested again": one with a blank in its middle is shown, and equal to no offer that is filed.
    ∷ with_middle_blank [] (look_up 4) (reads 0 3 700)
    ∷ with_middle_blank [] stands passes
    ∷ with_middle_blank [] (standing 4 (500 at 4000 ∷ (0 at 0 ∷ (200 at 5000 ∷ [])))) (draws 12)
    -- "A held offer .. is still walked to its last pair", as old: the 501st tenth comes after the blank, and so do 20.0 of its 70.0 MW
    ∷ with_middle_blank tripped (with_reason 2 (standing 4 (500 at 4000 ∷ (200 at 5000 ∷ [])))) passes
    ∷ with_middle_blank tripped (with_reason 2 (standing 4 (500 at 4000 ∷ (200 at 6000 ∷ [])))) (draws 17)
    ∷ with_middle_blank (notice 4 4 4 ∷ (clock 56 ∷ [])) (variation 4 4 (500 at 4000 ∷ (200 at 5000 ∷ []))) (draws 17)
    ∷ with_middle_blank (notice 4 4 4 ∷ (clock 56 ∷ [])) (variation 4 4 (500 at 4000 ∷ (201 at 5000 ∷ []))) passes
    -- and as new, where a variation is taken back
    ∷ with_middle_blank (variation 4 0 (500 at 4000 ∷ (200 at 5000 ∷ [])) ∷ tripped) (blank 2) passes
    ∷ with_middle_blank (variation 4 0 (500 at 4000 ∷ (200 at 6000 ∷ [])) ∷ tripped) (blank 2) (draws 17)
    ∷ with_middle_blank (variation 4 0 (500 at 4000 ∷ (100 at 5000 ∷ [])) ∷ (notice 4 4 4 ∷ (clock 56 ∷ []))) (blank 4) passes
    -- 4 "an unused byte not zero": byte 7 of an outage
    ∷ row (plant ∷ []) (with_byte 7 1 (outage 0 1)) (draws 4)
    -- 7 "not 0 ≤ A ≤ B ≤ 40,000,000"
    ∷ row [] (notice 3 5 4) (draws 7)
    ∷ row [] (notice 3 4 40000000) passes
    ∷ row [] (notice 3 4 40000001) (draws 7)
    -- 8 "W1–W6 outside 0–99,999; W7, W8 outside 0–9,999; W9–W11 outside 0–1,000": W6 100,000, W8 10,000, W9 1,001, W11 1,056; "load with mark 0 or 4 set"
    ∷ row [] (of_all 1 all_marks) passes
    ∷ row [] (with_byte 57 1 (with_byte 58 134 (with_byte 59 160 (of_all 1 all_marks)))) (draws 8)
    ∷ row [] (with_byte 67 16 (of_all 1 all_marks)) (draws 8)
    ∷ row [] (with_byte 71 233 (of_all 1 all_marks)) (draws 8)
    ∷ row [] (with_byte 78 4 (of_all 1 all_marks)) (draws 8)
    ∷ row [] (of_all 2 all_marks) (draws 8)
    -- 9 "mark for the service not 1": registered for reserve alone, and for its first class alone
    ∷ wide (of_all 2 reserve_marks ∷ []) (standing_for 3 4 (30 at 300 ∷ [])) passes
    ∷ wide (of_all 2 reserve_marks ∷ []) (standing_for 4 4 (30 at 300 ∷ [])) (draws 9)
    ∷ wide (of_all 2 (pos 0 ∷ (pos 1 ∷ replicate 3 (pos 0))) ∷ []) (standing_for 2 4 (20 at 200 ∷ [])) (draws 9)
    -- 10 "P ≥ 48·(d + 7)": the last period of the horizon, and the first past it
    ∷ row (plant ∷ []) (variation 335 0 (300 at 4000 ∷ [])) passes
    ∷ row (plant ∷ []) (variation 336 0 (300 at 4000 ∷ [])) (draws 10)
    -- "slot outside 0–335"
    ∷ row (plant ∷ []) (standing 336 (300 at 4000 ∷ [])) (draws 10)
    -- 11 "quantity outside 0–99,999, price outside its limits (services 1–4 from 0)"
    ∷ row (plant ∷ []) (standing 4 (99999 at 4000 ∷ [])) (draws 16)
    ∷ row (plant ∷ []) (standing 4 (100000 at 4000 ∷ [])) (draws 11)
    ∷ row (plant ∷ []) (standing 4 (record { price = pos 4000; quantity = negsuc 0 } ∷ [])) (draws 11)
    ∷ row (plant ∷ []) (standing 4 (record { price = negsuc 449999; quantity = pos 1 } ∷ [])) passes
    ∷ in_wide (with_proportion 900 (standing_for 2 4 (20 at 201 ∷ []))) (draws 11)
    ∷ in_wide (with_proportion 900 (standing_for 2 4 (record { price = negsuc 0; quantity = pos 1 } ∷ []))) (draws 11)
    -- 13 "not strictly rising"
    ∷ row (plant ∷ []) (standing 4 (100 at 4000 ∷ (100 at 4000 ∷ []))) (draws 13)
    -- 14 ramp down against its own maximum
    ∷ in_wide (with_byte 22 39 (with_byte 23 14 (standing_for 0 4 (700 at 4000 ∷ [])))) passes
    ∷ in_wide (with_byte 22 39 (with_byte 23 15 (standing_for 0 4 (700 at 4000 ∷ [])))) (draws 14)
    -- 15 "generation reserve: proportion 0 or above its maximum; load isn't tested"
    ∷ in_wide (secondary 900) passes
    ∷ in_wide (secondary 901) (draws 15)
    ∷ in_wide (secondary 0) (draws 15)
    ∷ in_wide (with_proportion 801 (standing_for 3 4 (30 at 300 ∷ []))) (draws 15)
    ∷ wide (of_all 2 reserve_marks ∷ []) (secondary 65535) passes
    -- 16 "total above generation or combined maximum (energy), or above the service's own"
    ∷ row (capability 800 1300 ∷ []) (standing 4 (1300 at 4000 ∷ [])) (draws 16)
    ∷ in_wide (with_proportion 900 (standing_for 2 4 (21 at 200 ∷ []))) (draws 16)
    ∷ in_wide (standing_for 4 4 (40 at 400 ∷ [])) passes
    ∷ in_wide (standing_for 4 4 (41 at 400 ∷ [])) (draws 16)
    -- 17: "Its window is m div 30 + 1 to m div 30 + n"
    ∷ row (plant ∷ (clock 56 ∷ (outage 56 1 ∷ []))) (variation 2 2 (300 at 4000 ∷ [])) passes
    ∷ row (plant ∷ (clock 56 ∷ (outage 56 1 ∷ []))) (variation 3 2 (300 at 4000 ∷ [])) (draws 17)
    -- "6 load, P in the outage window"
    ∷ wide (of_all 2 reserve_marks ∷ (clock 56 ∷ (outage 56 3 ∷ []))) (variation_for 1 4 6 (10 at 100 ∷ [])) passes
    ∷ wide (of_all 2 reserve_marks ∷ (clock 56 ∷ (outage 56 3 ∷ []))) (variation_for 1 4 2 (10 at 100 ∷ [])) (draws 17)
    -- "3 service 0, P in notice 3, new total below old", of a variation
    ∷ row (plant ∷ (stands ∷ (notice 3 4 4 ∷ (clock 56 ∷ [])))) (variation 4 3 (500 at 4000 ∷ [])) passes
    -- "only kind 5 can be withdrawn": 4 then still holds
    ∷ noticed [] 5 passes
    ∷ noticed (withdrawal ∷ []) 5 (draws 17)
    ∷ noticed (withdrawal ∷ []) 4 passes
    -- "a quantity below 0, which only a damaged book holds, counts as 0" in the gate; "its ten quantities added" in a look-up: −1.0 and 3.0
    ∷ with_negative [] (look_up 4) (reads 0 3 20)
    ∷ with_negative (notice 4 4 4 ∷ (clock 56 ∷ [])) (variation 4 4 (31 at 5000 ∷ [])) passes
    ∷ with_negative (notice 4 4 4 ∷ (clock 56 ∷ [])) (variation 4 4 (30 at 5000 ∷ [])) (draws 17)
    -- 18: another proportion is no duplicate
    ∷ wide (of_all 1 all_marks ∷ (secondary 900 ∷ [])) (secondary 900) (draws 18)
    ∷ wide (of_all 1 all_marks ∷ (secondary 900 ∷ [])) (secondary 899) passes
    -- "word 0 counts facilities with an offer in force": none, the second's alone, both
    ∷ two [] (total 4) passes
    ∷ two (of_facility 1 stands ∷ []) (total 4) (reads 0 1 700)
    ∷ two (of_facility 1 stands ∷ (standing 4 (500 at 4000 ∷ []) ∷ [])) (total 4) (reads 0 2 1200)
    ∷ []

-- Every row of the table holds.
unfoldable pub EveryCase : Type 0
EveryCase = (i : ℕ) → answer_in (get_or cases i first_case) ≡ (get_or cases i first_case).answered

-- "the 451st tenth differs", and none before it.
unfoldable pub The451stDiffers : Type 0
The451stDiffers = (same_prices_to 450 (500 at 4000 ∷ (200 at 5000 ∷ [])) (450 at 4000 ∷ (300 at 5000 ∷ [])) ≡ true)
    × (same_prices_to 451 (500 at 4000 ∷ (200 at 5000 ∷ [])) (450 at 4000 ∷ (300 at 5000 ∷ [])) ≡ false)

-- 20: one word too few, a limit too high and one too low, a lowest price above 0, no services, words too few for five services; and 0 at the edges of the limits.
abbrev opening_of : ℕ → ℤ → ℤ → ℕ → ℕ
opening_of words S lowest highest =
    opening_number (replicate words (pos 0)) (pos 1) S (lowest ∷ (pos 450000 ∷ (pos 450000 ∷ (pos 450000 ∷ (pos 450000 ∷ (pos highest ∷ []))))))

unfoldable pub Openings : Type 0
Openings = (opening_of 16224 (pos 1) (pos 0) 10000000 ≡ 0) × (opening_of 16223 (pos 1) (pos 0) 10000000 ≡ 20) × (opening_of 16224 (pos 1) (pos 0) 10000001 ≡ 20)
    × (opening_of 16224 (pos 1) (pos 1) 10000000 ≡ 20) × (opening_of 16224 (pos 1) (negsuc 9999999) 0 ≡ 0) × (opening_of 16224 (pos 1) (negsuc 10000000) 0 ≡ 20)
    × (opening_of 16224 (pos 0) (pos 0) 0 ≡ 20) × (opening_of 16224 (pos 5) (pos 0) 0 ≡ 20)

-- Words 1 to 23 of a look-up, "what its call carried": ramps and pairs of an energy offer, the proportion of a load's for reserve.
abbrev words_shown : List ℤ → List (List ℕ) → List ℕ → List ℤ
words_shown w before call = drop 1 (book_answer (book_run w before) call).words

unfoldable pub WordsShown : Type 0
WordsShown = (words_shown damaged_maximum (ramping 7 stands ∷ []) (look_up 4) ≡ pos 0 ∷ (pos 7 ∷ (pos 0 ∷ (pair_words (500 at 4000 ∷ (200 at 5000 ∷ [])) ++ zeros 16))))
    × (words_shown wide_book (of_all 2 reserve_marks ∷ (with_proportion 5 (standing_for 1 4 []) ∷ [])) (look_up_for 1 4) ≡ pos 5 ∷ zeros 22)

-- Words 2 and 3 of a look-up of period 4: "quotient and remainder rounded toward zero" of −12,345.
unfoldable pub RampsShown : Type 0
RampsShown = part 2 2 (book_answer (book_run (damaged_cell (negsuc 12344) (pos 0)) (plant ∷ [])) (look_up 4)).words ≡ negsuc 0 ∷ (negsuc 2344 ∷ [])

-- A filed cell's first words, and "24 zeros" once a variation is taken back; the window of an outage, "m div 30 + 1 to m div 30 + n".
unfoldable pub CellWords : Type 0
CellWords = (part (cell_place 1 1 0 0 standing_half 4) 4 (book_run damaged_maximum (clock 10 ∷ (ramping 7 stands ∷ []))) ≡ pos 1 ∷ (pos 0 ∷ (pos 70000 ∷ (pos 10 ∷ []))))
    × (part (cell_place 1 1 0 0 variation_half 4) 24 (book_run opened_book (clock 10 ∷ (both ++ (blank 0 ∷ [])))) ≡ zeros 24)
    × (part (outage_place 0) 2 (book_run opened_book (plant ∷ tripped)) ≡ pos 2 ∷ (pos 4 ∷ []))

-- A slot's next period in the minute before one of its periods, and in the first of it.
unfoldable pub NextPeriods : Type 0
NextPeriods = (next_period 119 4 ≡ 4) × (next_period 120 4 ≡ 340) × (next_period 0 0 ≡ 336) × (next_period 10049 335 ≡ 335) × (next_period 10050 335 ≡ 671)
