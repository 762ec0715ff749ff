-- Document 01, "The list machine". It has no table: nothing here names a cell, a stamp or a place.
-- "State: the opening's F, S and limits, and the list of accepted calls, newest first."
use Rattle.std.specs.Prelude.{Bool, cond, ◌&&◌, List, [], ◌∷◌, ℕ, eqb, ℤ, pos}
use Rattle.std.proofs.Math.Option.{Option, none, some}
use Rattle.offer_rules.specs.Numbers.{eq_z, to_nat, zeros}
use Rattle.offer_rules.specs.Offer.{Held, accepted_at}
use Rattle.offer_rules.specs.Gate.{Window}
use Rattle.book_rules.specs.Record.{call_of, facility_of, service_of, period_word, reason_of, word_a, word_b, capability_in, offer_in}
use Rattle.book_rules.specs.Force.{View, Answer, empty_window, outage_window, variation_made}
use Rattle.book_rules.specs.Refusals.{answer, after}

-- What is said by the newest call that passes the test, given the calls older than it; `before` where no call passes.
unfoldable pub newest : {A : Type 0} → (List ℕ → Bool) → (List ℕ → List (List ℕ) → A) → A → List (List ℕ) → A
newest test says before [] = before
newest test says before (c ∷ older) = cond (test c) (says c older) (newest test says before older)

abbrev pub is_for : ℕ → ℕ → List ℕ → Bool
is_for k f c = eqb (call_of c) k && eqb (facility_of c) f

abbrev pub is_offer_for : ℕ → ℕ → ℕ → ℕ → List ℕ → Bool
is_offer_for k f s p c = is_for k f c && (eqb (service_of c) s && eq_z (period_word c) (pos p))

-- "Clock: newest call 1's minute, else 0."
unfoldable pub list_clock : List (List ℕ) → ℤ
list_clock l = newest (λ c. eqb (call_of c) 1) (λ c _. word_a c) (pos 0) l

abbrev pub list_now : List (List ℕ) → ℕ
list_now l = to_nat (list_clock l)

-- "Capability, outage: newest for f." "None yet: kind 0, an empty window, no offer."
unfoldable pub list_capability : List (List ℕ) → ℕ → List ℤ
list_capability l f = newest (is_for 2 f) (λ c _. capability_in c) (zeros 17) l

unfoldable pub list_outage : List (List ℕ) → ℕ → Window
list_outage l f = newest (is_for 5 f) (λ c _. outage_window (to_nat (word_a c)) (to_nat (word_b c))) empty_window l

-- "Notice: newest of its kind, for kind 5 unless a withdrawal is newer."
unfoldable pub list_notice : List (List ℕ) → ℕ → Window
list_notice [] k = empty_window
list_notice (c ∷ l) k =
    cond (eqb (call_of c) 6 && eqb (reason_of c) k) (record { first = word_a c; last = word_b c })
    (cond (eqb (call_of c) 7 && eqb k 5) empty_window (list_notice l k))

-- "Standing: newest for (f, s, slot)." "The list machine takes the minute from the clock at acceptance" (document 02), which the calls older than the offer tell.
unfoldable pub list_standing : List (List ℕ) → ℕ → ℕ → ℕ → Option Held
list_standing l f s k = newest (is_offer_for 3 f s k) (λ c older. some (accepted_at (list_now older) (offer_in c))) none l

-- "Variation: newest for (f, s, P), with P whole, not its slot." "For the list machine, a newest variation that is blank counts as none" (document 02).
unfoldable pub list_variation : List (List ℕ) → ℕ → ℕ → ℕ → Option Held
list_variation l f s p = newest (is_offer_for 4 f s p) (λ c older. variation_made (list_now older) (offer_in c)) none l

unfoldable pub list_view : ℕ → ℕ → List ℤ → List (List ℕ) → View
list_view F S limits l = record {
  facilities = F;
  services = S;
  limits = limits;
  now = list_now l;
  capability = list_capability l;
  outage = list_outage l;
  notice = list_notice l;
  standing = list_standing l;
  variation = list_variation l;
}

-- "if accepted it joins the list"
abbrev pub list_accept : List (List ℕ) → List ℕ → List (List ℕ)
list_accept l b = b ∷ l

-- "its word 0 follows the same rule" (document 02): the rules answer over what the list shows.
module _ (F S : ℕ) (limits : List ℤ) where
  abbrev pub list_answer : List (List ℕ) → List ℕ → Answer
  list_answer = answer (List (List ℕ)) (list_view F S limits) list_accept

  abbrev pub list_after : List (List ℕ) → List ℕ → List (List ℕ)
  list_after = after (List (List ℕ)) (list_view F S limits) list_accept

  -- "The machine is fed the records alone, damaged ones too." The answers to a list of them, from a list of accepted calls on.
  unfoldable pub list_answers : List (List ℕ) → List (List ℕ) → List Answer
  list_answers l [] = []
  list_answers l (b ∷ bs) = list_answer l b ∷ list_answers (list_after l b) bs
