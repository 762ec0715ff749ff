-- What each accepted call files, in the book's words and in the list: the same thing under the same key, and nothing under any other.
use mathlib.Core.Path.{◌≡◌, refl, sym, ◌∙◌, ap}
use mathlib.Core.Logic.{◌≢◌}
use mathlib.Core.Bool.{Bool, true, false, ◌&&◌}
use mathlib.Core.List.{List, [], ◌∷◌}
use mathlib.Core.Option.{Option, none, some}
use Prim.Native.Nat.{ℕ, ◌≤◌, ◌<◌}
use native.Mathlib.Omega.{arith}
use lib.Dec.{eqb}
use lib.IntN.{ℤ, pos}
use lib.ListN.{length}
use borrow.Author.Tests.{eq-eqb, ne_eqb, eqb-true}
use Rattle.offer_rules.specs.Numbers.{to_nat}
use Rattle.offer_rules.specs.Offer.{Held, accepted_at}
use Rattle.offer_rules.specs.Gate.{Window}
use Rattle.book_rules.specs.Record.{call_of, facility_of, service_of, period_word, reason_of, word_a, word_b, capability_in, offer_in}
use Rattle.book_rules.specs.Words.{put, cell, ramps_fit, holding, standing_stamp, variation_stamp}
use Rattle.book_rules.specs.Force.{variation_made}
use Rattle.book_rules.specs.Book.{facilities_in, services_in, now_in, held, write_cell, outage_words, book_accept}
use Rattle.book_rules.specs.ListMachine.{newest, list_clock, list_now, list_capability, list_outage, list_notice, list_standing, list_variation}
use Rattle.book_rules.proofs.Calls.{length_capability, length_offer}
use Rattle.book_rules.proofs.Cells.{held_back, made_back, length_cell, length_holding}
use Rattle.book_rules.proofs.Places.{Key, clock_k, notice_k, capability_k, outage_k, standing_k, variation_k, place, width}

-- ---- the two readings of a key

unfoldable pub window_words : Window → List ℤ
window_words v = v.first ∷ (v.last ∷ [])

-- No words for no offer.
unfoldable pub offer_words : Option Held → List ℤ
offer_words none = []
offer_words (some h) = h.minute ∷ h.offer

unfoldable pub listed : List (List ℕ) → Key → List ℤ
listed l clock_k = list_clock l ∷ []
listed l (notice_k k) = window_words (list_notice l k)
listed l (capability_k f) = list_capability l f
listed l (outage_k f) = window_words (list_outage l f)
listed l (standing_k f s k) = offer_words (list_standing l f s k)
listed l (variation_k f s p) = offer_words (list_variation l f s p)

-- What words in a key's place show of it.
unfoldable pub shown : Key → List ℤ → List ℤ
shown clock_k c = c
shown (notice_k k) c = c
shown (capability_k f) c = c
shown (outage_k f) c = c
shown (standing_k f s k) c = offer_words (held standing_stamp c)
shown (variation_k f s p) c = offer_words (held (variation_stamp p) c)

-- ---- what a call files

-- At a minute, which an offer keeps.
pub record Files (now : ℕ) (b : List ℕ) (κ : Key) (v : List ℤ) : Type 0 where
  pub writes : (w : List ℤ) → now_in w ≡ now → book_accept w b ≡ put w (place (facilities_in w) (services_in w) κ) v
  pub sized : length v ≡ width κ
  pub shows : (l : List (List ℕ)) → list_now l ≡ now → shown κ v ≡ listed (b ∷ l) κ
  pub keeps : (l : List (List ℕ)) (κ' : Key) → κ' ≢ κ → listed (b ∷ l) κ' ≡ listed l κ'

-- Calls 8 and 9.
pub record FilesNothing (b : List ℕ) : Type 0 where
  pub writes_none : (w : List ℤ) → book_accept w b ≡ w
  pub keeps_all : (l : List (List ℕ)) (κ : Key) → listed (b ∷ l) κ ≡ listed l κ

three_apart : (a b c a' b' c' : ℕ) → (a ≡ a' → b ≡ b' → c ≡ c' → ⊥) → (eqb a a' && (eqb b b' && eqb c c')) ≡ false
three_apart a b c a' b' c' n = go (eqb a a') refl (eqb b b') refl (eqb c c') refl
  where
    go : (x : Bool) → eqb a a' ≡ x → (y : Bool) → eqb b b' ≡ y → (z : Bool) → eqb c c' ≡ z → (x && (y && z)) ≡ false
    go true ea true eb true ec = absurd (n (eqb-true a a' ea) (eqb-true b b' eb) (eqb-true c c' ec))
    go true ea true eb false ec = refl
    go true ea false eb z ec = refl
    go false ea y eb z ec = refl

module _ (b : List ℕ) where
  clock_keeps : call_of b ≡ 1 → (l : List (List ℕ)) (κ : Key) → κ ≢ clock_k → listed (b ∷ l) κ ≡ listed l κ
  unfolding listed newest list_notice list_capability list_outage list_standing list_variation
  clock_keeps e l clock_k n = absurd (n refl)
  clock_keeps e l (notice_k k) n = rw e
  clock_keeps e l (capability_k f) n = rw e
  clock_keeps e l (outage_k f) n = rw e
  clock_keeps e l (standing_k f s k) n = rw e
  clock_keeps e l (variation_k f s p) n = rw e

  pub clock_files : (now : ℕ) → call_of b ≡ 1 → Files now b clock_k (word_a b ∷ [])
  unfolding book_accept place width shown listed newest list_clock
  clock_files now e = record { writes = λ w _. rw e; sized = refl; shows = λ l _. rw e; keeps = clock_keeps e }

  capability_keeps : call_of b ≡ 2 → (l : List (List ℕ)) (κ : Key) → κ ≢ capability_k (facility_of b) → listed (b ∷ l) κ ≡ listed l κ
  unfolding listed newest list_clock list_notice list_capability list_outage list_standing list_variation
  capability_keeps e l clock_k n = rw e
  capability_keeps e l (notice_k k) n = rw e
  capability_keeps e l (capability_k f) n = rw (e, ne_eqb (facility_of b) f (λ q. n (ap capability_k (sym q))))
  capability_keeps e l (outage_k f) n = rw e
  capability_keeps e l (standing_k f s k) n = rw e
  capability_keeps e l (variation_k f s p) n = rw e

  pub capability_files : (now : ℕ) → call_of b ≡ 2 → Files now b (capability_k (facility_of b)) (capability_in b)
  unfolding book_accept place width shown listed newest list_capability
  capability_files now e = record {
    writes = λ w _. rw e;
    sized = length_capability b;
    shows = λ l _. rw (e, eq-eqb (facility_of b) (facility_of b) refl);
    keeps = capability_keeps e;
  }

  outage_keeps : call_of b ≡ 5 → (l : List (List ℕ)) (κ : Key) → κ ≢ outage_k (facility_of b) → listed (b ∷ l) κ ≡ listed l κ
  unfolding listed newest list_clock list_notice list_capability list_outage list_standing list_variation
  outage_keeps e l clock_k n = rw e
  outage_keeps e l (notice_k k) n = rw e
  outage_keeps e l (capability_k f) n = rw e
  outage_keeps e l (outage_k f) n = rw (e, ne_eqb (facility_of b) f (λ q. n (ap outage_k (sym q))))
  outage_keeps e l (standing_k f s k) n = rw e
  outage_keeps e l (variation_k f s p) n = rw e

  pub outage_files : (now : ℕ) → call_of b ≡ 5 → Files now b (outage_k (facility_of b)) (outage_words (to_nat (word_a b)) (to_nat (word_b b)))
  unfolding book_accept place width shown listed newest list_outage window_words outage_words
  outage_files now e = record {
    writes = λ w _. rw e;
    sized = refl;
    shows = λ l _. rw (e, eq-eqb (facility_of b) (facility_of b) refl);
    keeps = outage_keeps e;
  }

  notice_keeps : call_of b ≡ 6 → (l : List (List ℕ)) (κ : Key) → κ ≢ notice_k (reason_of b) → listed (b ∷ l) κ ≡ listed l κ
  unfolding listed newest list_clock list_notice list_capability list_outage list_standing list_variation
  notice_keeps e l clock_k n = rw e
  notice_keeps e l (notice_k k) n = rw (e, ne_eqb (reason_of b) k (λ q. n (ap notice_k (sym q))))
  notice_keeps e l (capability_k f) n = rw e
  notice_keeps e l (outage_k f) n = rw e
  notice_keeps e l (standing_k f s k) n = rw e
  notice_keeps e l (variation_k f s p) n = rw e

  pub notice_files : (now : ℕ) → call_of b ≡ 6 → Files now b (notice_k (reason_of b)) (word_a b ∷ (word_b b ∷ []))
  unfolding book_accept place width shown listed list_notice window_words
  notice_files now e = record {
    writes = λ w _. rw e;
    sized = refl;
    shows = λ l _. rw (e, eq-eqb (reason_of b) (reason_of b) refl);
    keeps = notice_keeps e;
  }

  -- A withdrawal empties notice 5 and no other.
  withdrawal_keeps : call_of b ≡ 7 → (l : List (List ℕ)) (κ : Key) → κ ≢ notice_k 5 → listed (b ∷ l) κ ≡ listed l κ
  unfolding listed newest list_clock list_notice list_capability list_outage list_standing list_variation
  withdrawal_keeps e l clock_k n = rw e
  withdrawal_keeps e l (notice_k k) n = simp (e, ne_eqb k 5 (λ q. n (ap notice_k q)))
  withdrawal_keeps e l (capability_k f) n = rw e
  withdrawal_keeps e l (outage_k f) n = rw e
  withdrawal_keeps e l (standing_k f s k) n = rw e
  withdrawal_keeps e l (variation_k f s p) n = rw e

  pub withdrawal_files : (now : ℕ) → call_of b ≡ 7 → Files now b (notice_k 5) (pos 1 ∷ (pos 0 ∷ []))
  unfolding book_accept place width shown listed list_notice window_words
  withdrawal_files now e = record { writes = λ w _. rw e; sized = refl; shows = λ l _. rw e; keeps = withdrawal_keeps e }

  module _ (p : ℕ) (is : period_word b ≡ pos p) where
    standing_keeps : call_of b ≡ 3 → (l : List (List ℕ)) (κ : Key) → κ ≢ standing_k (facility_of b) (service_of b) p → listed (b ∷ l) κ ≡ listed l κ
    unfolding listed newest list_clock list_notice list_capability list_outage list_standing list_variation
    standing_keeps e l clock_k n = rw e
    standing_keeps e l (notice_k k) n = rw e
    standing_keeps e l (capability_k f) n = rw e
    standing_keeps e l (outage_k f) n = rw e
    standing_keeps e l (standing_k f s k) n =
        rw (e, is, three_apart (facility_of b) (service_of b) p f s k (λ x y z. n (λ i. standing_k (sym x i) (sym y i) (sym z i))))
    standing_keeps e l (variation_k f s q) n = rw e

    pub standing_files : (now : ℕ) → ramps_fit (offer_in b) ≡ true → call_of b ≡ 3
        → Files now b (standing_k (facility_of b) (service_of b) p) (cell standing_stamp (accepted_at now (offer_in b)))
    unfolding book_accept write_cell place width shown listed newest list_standing
    standing_files now fit e = record {
      writes = λ w t. rw (e, is, t);
      sized = length_cell standing_stamp (accepted_at now (offer_in b)) (length_offer b);
      shows = λ l t.
          ap offer_words (held_back standing_stamp now (offer_in b) (λ z. omega arith) (length_offer b) fit)
          ∙ rw (e, is, t, eq-eqb (facility_of b) (facility_of b) refl, eq-eqb (service_of b) (service_of b) refl, eq-eqb p p refl);
      keeps = standing_keeps e;
    }

    variation_keeps : call_of b ≡ 4 → (l : List (List ℕ)) (κ : Key) → κ ≢ variation_k (facility_of b) (service_of b) p → listed (b ∷ l) κ ≡ listed l κ
    unfolding listed newest list_clock list_notice list_capability list_outage list_standing list_variation
    variation_keeps e l clock_k n = rw e
    variation_keeps e l (notice_k k) n = rw e
    variation_keeps e l (capability_k f) n = rw e
    variation_keeps e l (outage_k f) n = rw e
    variation_keeps e l (standing_k f s k) n = rw e
    variation_keeps e l (variation_k f s q) n =
        rw (e, is, three_apart (facility_of b) (service_of b) p f s q (λ x y z. n (λ i. variation_k (sym x i) (sym y i) (sym z i))))

    pub variation_files : (now : ℕ) → ramps_fit (offer_in b) ≡ true → call_of b ≡ 4
        → Files now b (variation_k (facility_of b) (service_of b) p) (holding (variation_stamp p) (variation_made now (offer_in b)))
    unfolding book_accept write_cell place width shown listed newest list_variation
    variation_files now fit e = record {
      writes = λ w t. rw (e, is, t);
      sized = length_holding (variation_stamp p) now (offer_in b) (length_offer b);
      shows = λ l t.
          ap offer_words (made_back p now (offer_in b) (length_offer b) fit)
          ∙ rw (e, is, t, eq-eqb (facility_of b) (facility_of b) refl, eq-eqb (service_of b) (service_of b) refl, eq-eqb p p refl);
      keeps = variation_keeps e;
    }

  -- A call from 8 on is none of those that file.
  module _ (k : ℕ) (e : call_of b ≡ k) (late : 8 ≤ k) where
    not_call : (n : ℕ) → n < 8 → eqb (call_of b) n ≡ false
    not_call n h = rw e (ne_eqb k n (λ q. omega arith))

    reader_keeps : (l : List (List ℕ)) (κ : Key) → listed (b ∷ l) κ ≡ listed l κ
    unfolding listed newest list_clock list_notice list_capability list_outage list_standing list_variation
    reader_keeps l clock_k = rw (not_call 1 (omega arith))
    reader_keeps l (notice_k n) = rw (not_call 6 (omega arith), not_call 7 (omega arith))
    reader_keeps l (capability_k f) = rw (not_call 2 (omega arith))
    reader_keeps l (outage_k f) = rw (not_call 5 (omega arith))
    reader_keeps l (standing_k f s n) = rw (not_call 3 (omega arith))
    reader_keeps l (variation_k f s p) = rw (not_call 4 (omega arith))

  pub look_up_files : call_of b ≡ 8 → FilesNothing b
  unfolding book_accept
  look_up_files e = record { writes_none = λ w. rw e; keeps_all = reader_keeps 8 e (omega arith) }

  pub total_files : call_of b ≡ 9 → FilesNothing b
  unfolding book_accept
  total_files e = record { writes_none = λ w. rw e; keeps_all = reader_keeps 9 e (omega arith) }
