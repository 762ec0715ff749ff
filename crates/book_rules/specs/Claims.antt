-- The demands, as claims about the definitions. Their proofs are in proofs/.
use Rattle.std.specs.Prelude.{◌≡◌, ◌↔◌, Bool, true, false, cond, not, ◌&&◌, List, [], ◌∷◌, ℕ, zero, suc, ◌+◌, ◌<◌, eqb, ℤ, pos, ◌+ℤ◌, length, drop}
use Rattle.std.proofs.Math.Option.{Option, none, some}
use Rattle.offer_rules.specs.Numbers.{to_nat, word, zeros, between}
use Rattle.offer_rules.specs.Time.{IsNext}
use Rattle.offer_rules.specs.Offer.{pairs, Held, accepted_at, all_blank, BlanksLast, blank_before_filled}
use Rattle.book_rules.specs.Record.{call_of, facility_of, service_of, period_word, offer_in, record_number}
use Rattle.book_rules.specs.Words.{cell, cell_held, ramps_fit, is_book, opening_number, opening_words}
use Rattle.book_rules.specs.Force.{View, in_force, pairs_of, Answer, plain}
use Rattle.book_rules.specs.Refusals.{equal_words, force_number, judge, look_up_reply, total_reply, reply}
use Rattle.book_rules.specs.Book.{facilities_in, services_in, now_in, book_view, book_accept, book_answer, book_after, book_answers, book_run}
use Rattle.book_rules.specs.ByNumber.{is_offer, own_force, own_held, own_gate, applies}
use Rattle.book_rules.specs.ListMachine.{list_answers}

-- Number 0.
abbrev pub is_accepted : List ℤ → List ℕ → Bool
is_accepted w b = eqb (book_answer w b).number 0

-- ---- demand 1

-- A refused call returns zeros beside its number and leaves every word of the book unchanged, for all words and bytes.
unfoldable pub RefusedChangesNothing : Type 0
RefusedChangesNothing = (w : List ℤ) (b : List ℕ) → is_accepted w b ≡ false → (book_answer w b ≡ plain (book_answer w b).number) × (book_after w b ≡ w)

-- ---- demand 2

-- A call is accepted exactly when no listed condition applies.
unfoldable pub AcceptedExactly : Type 0
AcceptedExactly = (w : List ℤ) (b : List ℕ) → (is_accepted w b ≡ true) ↔ ((n : ℕ) → applies w b n ≡ false)

-- Else it is refused with the lowest number that applies.
unfoldable pub LowestThatApplies : Type 0
LowestThatApplies = (w : List ℤ) (b : List ℕ) → is_accepted w b ≡ false
    → (applies w b (book_answer w b).number ≡ true) × ((n : ℕ) → n < (book_answer w b).number → applies w b n ≡ false)

-- "The gate compares old with the offer that will stand afterwards": on all words and every variation that pass 1 to 4, the condition of 17 is
-- the gate's, old being the offer in force before the call and new the one in force in the words that it leaves once it is filed.
unfoldable pub StandsAfterwards : Type 0
StandsAfterwards = (w : List ℤ) (b : List ℕ) → is_book w ≡ true → record_number b (facilities_in w) (services_in w) ≡ 0 → call_of b ≡ 4
    → applies w b 17 ≡ own_gate (book_view w) b (to_nat (period_word b)) (pairs_of (own_force (book_view w) b)) (pairs_of (own_force (book_view (book_accept w b)) b))

-- "P is the slot's next period not yet begun; old is the held standing offer, new the one filed" (document 02): on all words and every standing offer for a
-- slot up to 335, the condition of 17 is the same gate's at the one period p that is the slot's next, whatever variation is in force for p; a negative slot, which 10 refuses,
-- is taken as 0, and no period has a slot above 335.
-- "A first one always passes the gate."
unfoldable pub RevisedAtNextPeriod : Type 0
RevisedAtNextPeriod = (w : List ℤ) (b : List ℕ) → call_of b ≡ 3
    → ((h : Held) (p : ℕ) → own_held (book_view w) b ≡ some h → IsNext (book_view w).now (to_nat (period_word b)) p
    → applies w b 17 ≡ own_gate (book_view w) b p (pairs h.offer) (pairs (offer_in b)))
    × (own_held (book_view w) b ≡ none → applies w b 17 ≡ false)

-- ---- a total is of look-ups

-- Over facilities 0 to n − 1: how many pass a test, and what is asked of each, added.
unfoldable pub how_many : ℕ → (ℕ → Bool) → ℕ
how_many zero test = 0
how_many (suc n) test = how_many n test + cond (test n) 1 0

unfoldable pub added_over : ℕ → (ℕ → ℤ) → ℤ
added_over zero asked = pos 0
added_over (suc n) asked = added_over n asked +ℤ asked n

-- "Total: word 0 counts facilities with an offer in force, other words zero; sum over them": those of which a look-up, by 19, finds one, and the sums that it shows.
-- On all that a state may show; a facility without a kind, whose look-up draws 5, counts too.
unfoldable pub TotalOfLookUps : Type 0
TotalOfLookUps = (vw : View) (s p : ℕ)
    → ((total_reply vw s p).number ≡ 0)
    × ((total_reply vw s p).words ≡ pos (how_many vw.facilities (λ f. eqb (force_number (in_force vw f s p)) 0)) ∷ zeros 23)
    × ((total_reply vw s p).sum ≡ added_over vw.facilities (λ f. (look_up_reply vw f s p).sum))

-- ---- document 02: blank pairs

-- "all non-blank pairs come first": in every offer that 12 does not apply to, and so in every one that is accepted, whatever the words.
unfoldable pub OffersBlanksLast : Type 0
OffersBlanksLast = (w : List ℤ) (b : List ℕ) → is_offer b ≡ true → applies w b 12 ≡ false → BlanksLast (pairs (offer_in b))

-- Against a held standing offer in which a blank pair stands before a non-blank one, a standing offer that 12 does not
-- apply to never draws 18.
unfoldable pub NeverEqualToHeld : Type 0
NeverEqualToHeld = (w : List ℤ) (b : List ℕ) (h : Held) → call_of b ≡ 3 → own_held (book_view w) b ≡ some h → blank_before_filled (pairs h.offer) ≡ true
    → applies w b 12 ≡ false → applies w b 18 ≡ false

-- ---- document 02: the minute of acceptance

-- What a record files at the words' clock.
abbrev pub filed_offer : List ℤ → List ℕ → Held
filed_offer w b = record { offer = offer_in b; minute = pos (now_in w) }

-- An accepted offer is shown as it was filed, with "the minute of its acceptance", the clock's: on all words, of whatever maxima.
-- Of a variation of blanks nothing is held.
unfoldable pub HeldAsFiled : Type 0
HeldAsFiled = (w : List ℤ) (b : List ℕ) → is_accepted w b ≡ true
    → (call_of b ≡ 3 → own_held (book_view (book_after w b)) b ≡ some (filed_offer w b))
    × (call_of b ≡ 4 → (book_view (book_after w b)).variation (facility_of b) (service_of b) (to_nat (period_word b)) ≡ cond (all_blank (pairs (offer_in b))) none (some (filed_offer w b)))

-- 18 "equal to the held one in cell words 1–23", where "The duplicate test ignores the minute": of an offer whose ramps a cell can hold (4 and 14 leave no others) and of whatever
-- cell is held, the comparison is that of the cell's words with those that filing the offer would write, word 3 aside.
abbrev pub but_minute : List ℤ → List ℤ
but_minute c = word c 1 ∷ (word c 2 ∷ drop 4 c)

unfoldable pub EqualInCellWords : Type 0
EqualInCellWords = (c o : List ℤ) (stamp now : ℕ) → length o ≡ 23 → ramps_fit o ≡ true
    → equal_words (cell_held c).offer o ≡ equal_words (but_minute c) (but_minute (cell stamp (accepted_at now o)))

-- What a view shows, with every held minute 0.
unfoldable pub minute_less : Option Held → Option Held
minute_less none = none
minute_less (some h) = some (record { offer = h.offer; minute = pos 0 })

abbrev pub ageless : View → View
ageless vw = record {
  facilities = vw.facilities;
  services = vw.services;
  limits = vw.limits;
  now = vw.now;
  capability = vw.capability;
  outage = vw.outage;
  notice = vw.notice;
  standing = λ f s k. minute_less (vw.standing f s k);
  variation = λ f s p. minute_less (vw.variation f s p);
}

-- A minute shows in a look-up's word 0 and nowhere else: it decides no number, no sum and no other word.
unfoldable pub MinutesShowInWord0 : Type 0
MinutesShowInWord0 = (vw : View) (b : List ℕ)
    → (judge (ageless vw) b ≡ judge vw b) × ((reply (ageless vw) b).sum ≡ (reply vw b).sum) × (drop 1 (reply (ageless vw) b).words ≡ drop 1 (reply vw b).words)
    × (eqb (call_of b) 8 ≡ false → reply (ageless vw) b ≡ reply vw b)

-- ---- demand 3: every list of calls
-- Premise: each call is lent the words that the call before left, the first those that an accepted opening left. The opening has six limits by its type.

-- For all words lent, every F, S and limits that the opening accepts and every list of byte strings,
-- the book's answers (number, 24 words, sum) are the list machine's.
unfoldable pub EveryList : Type 0
EveryList = (w : List ℤ) (F S : ℤ) (limits : List ℤ) → length limits ≡ 6 → opening_number w F S limits ≡ 0
    → (bs : List (List ℕ)) → book_answers (opening_words w F S limits) bs ≡ list_answers (to_nat F) (to_nat S) limits [] bs

-- "Filings are calls 2 to 5, each for the facility in byte 6": a filing for another facility than f, of whatever kind.
-- "Striking out filings for other facilities covers links too" (document 02).
unfoldable pub is_others_filing : ℕ → List ℕ → Bool
is_others_filing f b = between 2 5 (call_of b) && not (eqb (facility_of b) f)

abbrev pub is_look_up_for : ℕ → List ℕ → Bool
is_look_up_for f b = eqb (call_of b) 8 && eqb (facility_of b) f

-- The list without its refused calls and without the filings for other facilities than f;
-- "Which calls are refused is read from the run of the whole list", which starts from w.
unfoldable pub struck_out : ℕ → List ℤ → List (List ℕ) → List (List ℕ)
struck_out f w [] = []
struck_out f w (b ∷ bs) =
    cond (is_accepted w b && not (is_others_filing f b)) (b ∷ struck_out f (book_after w b) bs) (struck_out f (book_after w b) bs)

-- After the shorter list every look-up for f, accepted or refused, returns what it returns after the whole one.
-- (Take for `bs` the part of a list before a look-up: so it holds of every look-up inside a list.)
unfoldable pub StrikingOut : Type 0
StrikingOut = (w : List ℤ) (F S : ℤ) (limits : List ℤ) → length limits ≡ 6 → opening_number w F S limits ≡ 0
    → (f : ℕ) (bs : List (List ℕ)) (q : List ℕ) → is_look_up_for f q ≡ true
    → book_answer (book_run (opening_words w F S limits) (struck_out f (opening_words w F S limits) bs)) q
    ≡ book_answer (book_run (opening_words w F S limits) bs) q

-- The answers to the look-ups for f in a run from w, and those of them that are accepted.
unfoldable pub look_ups : ℕ → List ℤ → List (List ℕ) → List Answer
look_ups f w [] = []
look_ups f w (b ∷ bs) = cond (is_look_up_for f b) (book_answer w b ∷ look_ups f (book_after w b) bs) (look_ups f (book_after w b) bs)

unfoldable pub accepted_look_ups : ℕ → List ℤ → List (List ℕ) → List Answer
accepted_look_ups f w [] = []
accepted_look_ups f w (b ∷ bs) =
    cond (is_accepted w b && is_look_up_for f b) (book_answer w b ∷ accepted_look_ups f (book_after w b) bs) (accepted_look_ups f (book_after w b) bs)

-- In the run of the shorter list the look-ups for f that it keeps are answered, one by one, as in the run of the whole one.
unfoldable pub StrikingOutInside : Type 0
StrikingOutInside = (w : List ℤ) (F S : ℤ) (limits : List ℤ) → length limits ≡ 6 → opening_number w F S limits ≡ 0
    → (f : ℕ) (bs : List (List ℕ))
    → look_ups f (opening_words w F S limits) (struck_out f (opening_words w F S limits) bs) ≡ accepted_look_ups f (opening_words w F S limits) bs
