-- The book as document 01's words have it: what they show, what an accepted call writes, and what every call answers and leaves.
use Rattle.std.specs.Prelude.{cond, List, [], ◌∷◌, ℕ, eqb, ℤ, pos}
use Rattle.std.proofs.Math.Option.{Option, none, some}
use Rattle.offer_rules.specs.Numbers.{eq_z, to_nat, word}
use Rattle.offer_rules.specs.Time.{slot_of}
use Rattle.offer_rules.specs.Offer.{Held, accepted_at}
use Rattle.offer_rules.specs.Gate.{Window}
use Rattle.book_rules.specs.Record.{call_of, facility_of, service_of, period_word, reason_of, word_a, word_b, capability_in, offer_in}
use Rattle.book_rules.specs.Words.{part, put, clock_place, notice_place, limits_place, facility_place, outage_place, cell_width, cell_place, standing_half, variation_half, cell, cell_stamp, cell_held, holding, standing_stamp, variation_stamp, is_book}
use Rattle.book_rules.specs.Force.{View, empty_window, outage_window, variation_made, Answer, plain}
use Rattle.book_rules.specs.Refusals.{answer, after}

-- ---- what the words show

abbrev pub facilities_in : List ℤ → ℕ
facilities_in w = to_nat (word w 2)

abbrev pub services_in : List ℤ → ℕ
services_in w = to_nat (word w 3)

unfoldable pub window_in : List ℤ → Window
window_in l = record { first = word l 0; last = word l 1 }

abbrev pub now_in : List ℤ → ℕ
now_in w = to_nat (word w clock_place)

-- What a cell holds under a stamp.
unfoldable pub held : ℕ → List ℤ → Option Held
held stamp c = cond (eq_z (cell_stamp c) (pos stamp)) (some (cell_held c)) none

-- A cell's 24 words in a book of these sizes.
abbrev pub cell_in : List ℤ → ℕ → ℕ → ℕ → ℕ → List ℤ
cell_in w f s h k = part (cell_place (facilities_in w) (services_in w) f s h k) cell_width w

unfoldable pub book_view : List ℤ → View
book_view w = record {
  facilities = facilities_in w;
  services = services_in w;
  limits = part limits_place 6 w;
  now = now_in w;
  capability = λ f. part (facility_place f) 17 w;
  outage = λ f. window_in (part (outage_place f) 2 w);
  notice = λ k. window_in (part (notice_place k) 2 w);
  standing = λ f s k. held standing_stamp (cell_in w f s standing_half k);
  variation = λ f s p. held (variation_stamp p) (cell_in w f s variation_half (slot_of p));
}

-- ---- what an accepted call writes

-- "An accepted offer writes one cell's 24 words and no other word."
unfoldable pub write_cell : List ℤ → ℕ → ℕ → ℕ → ℕ → List ℤ → List ℤ
write_cell w f s h k c = put w (cell_place (facilities_in w) (services_in w) f s h k) c

-- "Each cell keeps the minute of its acceptance" (document 02).
abbrev pub file_standing : List ℤ → ℕ → ℕ → ℕ → List ℤ → List ℤ
file_standing w f s k o = write_cell w f s standing_half k (cell standing_stamp (accepted_at (now_in w) o))

-- Where its pairs are all blank a variation leaves nothing to hold.
abbrev pub file_variation : List ℤ → ℕ → ℕ → ℕ → List ℤ → List ℤ
file_variation w f s p o = write_cell w f s variation_half (slot_of p) (holding (variation_stamp p) (variation_made (now_in w) o))

abbrev pub words_of : Window → List ℤ
words_of v = v.first ∷ (v.last ∷ [])

unfoldable pub outage_words : ℕ → ℕ → List ℤ
outage_words m n = words_of (outage_window m n)

-- "Other accepted calls write only the fields they carry. Calls 8 and 9 write none."
-- "A new notice replaces that kind's old one; only kind 5 can be withdrawn, which sets its window to 1 to 0."
unfoldable pub book_accept : List ℤ → List ℕ → List ℤ
book_accept w b =
    cond (eqb (call_of b) 1) (put w clock_place (word_a b ∷ []))
    (cond (eqb (call_of b) 2) (put w (facility_place (facility_of b)) (capability_in b))
    (cond (eqb (call_of b) 3) (file_standing w (facility_of b) (service_of b) (to_nat (period_word b)) (offer_in b))
    (cond (eqb (call_of b) 4) (file_variation w (facility_of b) (service_of b) (to_nat (period_word b)) (offer_in b))
    (cond (eqb (call_of b) 5) (put w (outage_place (facility_of b)) (outage_words (to_nat (word_a b)) (to_nat (word_b b))))
    (cond (eqb (call_of b) 6) (put w (notice_place (reason_of b)) (word_a b ∷ (word_b b ∷ [])))
    (cond (eqb (call_of b) 7) (put w (notice_place 5) (words_of empty_window))
    w))))))

-- ---- what a call answers, and the words it leaves, for all words and bytes

unfoldable pub book_answer : List ℤ → List ℕ → Answer
book_answer w b = cond (is_book w) (answer (List ℤ) book_view book_accept w b) (plain 1)

unfoldable pub book_after : List ℤ → List ℕ → List ℤ
book_after w b = cond (is_book w) (after (List ℤ) book_view book_accept w b) w

-- ---- a list of calls, each lent the words that the one before left

unfoldable pub book_answers : List ℤ → List (List ℕ) → List Answer
book_answers w [] = []
book_answers w (b ∷ bs) = book_answer w b ∷ book_answers (book_after w b) bs

unfoldable pub book_run : List ℤ → List (List ℕ) → List ℤ
book_run w [] = w
book_run w (b ∷ bs) = book_run (book_after w b) bs
