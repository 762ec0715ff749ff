-- One call on a usable book by a record that passes 2, 3 and 4: what it answers and leaves, call by call. The code's proofs cite these.
use mathlib.Core.Path.{◌≡◌, refl, sym, ◌∙◌, ap}
use mathlib.Core.Bool.{Bool, true, false, cond, not, ◌&&◌, true≢false}
use mathlib.Core.List.{List, [], ◌∷◌}
use Prim.Native.Nat.{ℕ, ◌≤◌}
use native.Mathlib.Omega.{arith}
use lib.Dec.{leb, eqb}
use lib.IntN.{ℤ, pos}
use lib.ListN.{length}
use borrow.Author.Tests.{leb-true, eqb-true, eqb-false, ne_eqb}
use Rattle.offer_rules.specs.Numbers.{eq_z, to_nat, word, beyond, ◌then◌}
use Rattle.offer_rules.proofs.Drawn.{and_left, and_right}
use Rattle.book_rules.specs.Record.{call_of, facility_of, service_of, period_word, reason_of, word_a, word_b, capability_in, offer_in, record_number, sizes_ok}
use Rattle.book_rules.specs.Words.{put, book_size, book_mark, book_version, clock_place, notice_place, facility_place, outage_place, is_book}
use Rattle.book_rules.specs.Force.{Answer, plain}
use Rattle.book_rules.specs.Refusals.{judge, reply, number, answer, after}
use Rattle.book_rules.specs.Book.{facilities_in, services_in, outage_words, file_standing, file_variation, book_view, book_accept, book_answer, book_after}
use Rattle.book_rules.specs.Claims.{is_accepted}
use Rattle.book_rules.proofs.Calls.{reply_plain}

-- ---- a usable book

-- A book has room for its cells.
pub room_in : (w : List ℤ) → is_book w ≡ true → book_size (facilities_in w) (services_in w) ≤ length w
unfolding is_book
room_in w e =
    leb-true _ _ (and_left (leb (book_size (facilities_in w) (services_in w)) (length w)) (not (beyond (pos 0) (pos 1000000000) (word w clock_place)))
    (and_right ((leb 64 (length w) && (eq_z (word w 0) book_mark && eq_z (word w 1) book_version)) && sizes_ok (word w 2) (word w 3)) _ e))

-- ---- an unusable book, a record that is refused as it stands

module _ (w : List ℤ) (b : List ℕ) where
  pub unusable : is_book w ≡ false → (book_answer w b ≡ plain 1) × (book_after w b ≡ w)
  unfolding book_answer book_after
  unusable e = (rw e, rw e)

  abbrev pub first_number : ℕ
  first_number = record_number b (facilities_in w) (services_in w)

  pub turned_away : is_book w ≡ true → (first_number ≡ 0 → ⊥) → (book_answer w b ≡ plain first_number) × (book_after w b ≡ w)
  unfolding book_answer book_after answer after number book_view ◌then◌
  turned_away e n = (rw (e, ne_eqb first_number 0 n, ne_eqb first_number 0 n), rw (e, ne_eqb first_number 0 n, ne_eqb first_number 0 n))

  module _ (usable : is_book w ≡ true) (taken : first_number ≡ 0) where
    number_is : number (List ℤ) book_view book_accept w b ≡ judge (book_view w) b
    unfolding number book_view ◌then◌
    number_is = rw taken

    answer_is : book_answer w b ≡ cond (eqb (judge (book_view w) b) 0) (reply (book_view w) b) (plain (judge (book_view w) b))
    unfolding book_answer answer
    answer_is = rw (usable, number_is)

    after_is : book_after w b ≡ cond (eqb (judge (book_view w) b) 0) (book_accept w b) w
    unfolding book_after after
    after_is = rw (usable, number_is)

    -- A call that draws a number.
    pub refused_call : (n : ℕ) → judge (book_view w) b ≡ n → (n ≡ 0 → ⊥) → (book_answer w b ≡ plain n) × (book_after w b ≡ w)
    refused_call n e h = (answer_is ∙ rw (e, ne_eqb n 0 h), after_is ∙ rw (e, ne_eqb n 0 h))

    -- A call that draws none.
    pub accepted_call : judge (book_view w) b ≡ 0 → (book_answer w b ≡ reply (book_view w) b) × (book_after w b ≡ book_accept w b)
    accepted_call e = (answer_is ∙ rw e, after_is ∙ rw e)

    -- Calls 1 to 7 answer their number alone.
    pub accepted_filing : (k : ℕ) → call_of b ≡ k → k ≤ 7 → judge (book_view w) b ≡ 0 → (book_answer w b ≡ plain 0) × (book_after w b ≡ book_accept w b)
    accepted_filing k e h z =
        let x = accepted_call z in
        (x.0 ∙ reply_plain (book_view w) b k e (ne_eqb k 8 (λ q. omega arith)) (ne_eqb k 9 (λ q. omega arith)), x.1)

-- ---- an accepted call

-- What it has passed, and the words that it leaves.
pub record Passed (w : List ℤ) (b : List ℕ) : Type 0 where
  pub usable : is_book w ≡ true
  pub taken : first_number w b ≡ 0
  pub judged : judge (book_view w) b ≡ 0
  pub left : book_after w b ≡ book_accept w b

pub accepted_on : (w : List ℤ) (b : List ℕ) → is_accepted w b ≡ true → Passed w b
unfolding plain
accepted_on w b a = go (is_book w) refl (eqb (first_number w b) 0) refl (eqb (judge (book_view w) b) 0) refl
  where
    -- A call that draws a number is not accepted.
    not_drawn : (n : ℕ) → book_answer w b ≡ plain n → eqb n 0 ≡ false → ⊥
    not_drawn n e z = true≢false (sym a ∙ ap (λ (x : Answer). eqb x.number 0) e ∙ z)

    go : (t : Bool) → is_book w ≡ t → (u : Bool) → eqb (first_number w b) 0 ≡ u → (v : Bool) → eqb (judge (book_view w) b) 0 ≡ v → Passed w b
    go false et u eu v ev = absurd (not_drawn 1 (unusable w b et).0 refl)
    go true et false eu v ev = absurd (not_drawn (first_number w b) (turned_away w b et (eqb-false (first_number w b) 0 eu)).0 eu)
    go true et true eu false ev =
        absurd (not_drawn (judge (book_view w) b) (refused_call w b et (eqb-true (first_number w b) 0 eu) (judge (book_view w) b) refl (eqb-false (judge (book_view w) b) 0 ev)).0 ev)
    go true et true eu true ev =
        let taken = eqb-true (first_number w b) 0 eu in
        let judged = eqb-true (judge (book_view w) b) 0 ev in
        record { usable = et; taken = taken; judged = judged; left = (accepted_call w b et taken judged).1 }

-- ---- what each accepted call writes

module _ (w : List ℤ) (b : List ℕ) where
  pub accept_clock : call_of b ≡ 1 → book_accept w b ≡ put w clock_place (word_a b ∷ [])
  unfolding book_accept
  accept_clock e = rw e

  pub accept_capability : call_of b ≡ 2 → book_accept w b ≡ put w (facility_place (facility_of b)) (capability_in b)
  unfolding book_accept
  accept_capability e = rw e

  pub accept_standing : call_of b ≡ 3 → book_accept w b ≡ file_standing w (facility_of b) (service_of b) (to_nat (period_word b)) (offer_in b)
  unfolding book_accept
  accept_standing e = rw e

  pub accept_variation : call_of b ≡ 4 → book_accept w b ≡ file_variation w (facility_of b) (service_of b) (to_nat (period_word b)) (offer_in b)
  unfolding book_accept
  accept_variation e = rw e

  pub accept_outage : call_of b ≡ 5 → book_accept w b ≡ put w (outage_place (facility_of b)) (outage_words (to_nat (word_a b)) (to_nat (word_b b)))
  unfolding book_accept
  accept_outage e = rw e

  pub accept_notice : call_of b ≡ 6 → book_accept w b ≡ put w (notice_place (reason_of b)) (word_a b ∷ (word_b b ∷ []))
  unfolding book_accept
  accept_notice e = rw e

  pub accept_withdrawal : call_of b ≡ 7 → book_accept w b ≡ put w (notice_place 5) (pos 1 ∷ (pos 0 ∷ []))
  unfolding book_accept
  accept_withdrawal e = rw e

  -- Calls 8 and 9.
  pub accept_reader : (k : ℕ) → call_of b ≡ k → 8 ≤ k → book_accept w b ≡ w
  unfolding book_accept
  accept_reader k e h =
      rw (e, ne_eqb k 1 (λ q. omega arith), ne_eqb k 2 (λ q. omega arith), ne_eqb k 3 (λ q. omega arith), ne_eqb k 4 (λ q. omega arith), ne_eqb k 5 (λ q. omega arith), ne_eqb k 6 (λ q. omega arith), ne_eqb k 7 (λ q. omega arith))
