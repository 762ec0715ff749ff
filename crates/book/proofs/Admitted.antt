-- What refusals 1 to 4 leave to a call: a usable book, 112 bytes, a call from 1 to 9, and that what it names lies in the book.
use mathlib.Core.Path.{◌≡◌, refl, sym, ap, ◌∙◌}
use mathlib.Core.Bool.{Bool, true, false}
use mathlib.Core.List.{List}
use Prim.Native.Nat.{ℕ, ◌<◌}
use native.Mathlib.Omega.{arith}
use lib.IntN.{ℤ}
use Rattle.book_rules.specs.Record.{call_of, service_of, uses, record_number}
use Rattle.book_rules.specs.Words.{book_size, is_book}
use Rattle.book_rules.specs.Force.{plain}
use Rattle.book_rules.specs.Book.{facilities_in, services_in}
use Rattle.book_rules.proofs.Calls.{Which, Named, named, capability_uses, standing_uses, variation_uses, outage_uses, look_up_uses, total_uses}
use Rattle.book_rules.proofs.OneCall.{unusable, turned_away}
use Rattle.opening.proofs.UsableBooks as books
use Rattle.judging.specs.Usable.{Usable}
use Rattle.judging.specs.Tested.{Tested, Facility, Place}
use Rattle.layout.specs.Refusal.{number}
use Rattle.layout.specs.declared.refusal.Refusal.{Refusal}
use Rattle.layout.proofs.Chains.{is_drawn}
use Rattle.judging.proofs.Answering.{Answers}
use Rattle.book.specs.Tests.{tested_number}

-- Refusal 1.
pub usable : (w : List ℤ) → is_book w ≡ true → Usable w
unfolding book_size
usable w e =
    let u : books.BookWords w = books.usable w e in
    record {
      is_usable = e;
      sized = record {
        facilities_held = refl;
        services_held = refl;
        facilities_limit = u.most_f;
        services_limit = u.most_s;
        room = u.book_fits;
      };
      blocks = omega (arith, u.book_fits);
      timely = u.most_clock;
    }

-- Refused: its number is answered alone, and nothing is written.
pub turned_down : (w : List ℤ) (b : List ℕ) (r : Refusal) → number r ≡ tested_number w b → Answers w b (plain (number r)) w
turned_down w b r e = go (is_book w) refl
  where
    go : (t : Bool) → is_book w ≡ t → Answers w b (plain (number r)) w
    go true u =
        let k : number r ≡ record_number b (facilities_in w) (services_in w) = e ∙ rw u in
        let x = turned_away w b u (λ z. is_drawn r (k ∙ z)) in
        (ap plain k ∙ sym x.0, sym x.1)
    go false u =
        let k : number r ≡ 1 = e ∙ rw u in
        let x = unusable w b u in
        (ap plain k ∙ sym x.0, sym x.1)

-- None is drawn.
pub passed : (w : List ℤ) (b : List ℕ) → 0 ≡ tested_number w b → Tested w b
passed w b e = go (is_book w) refl
  where
    go : (t : Bool) → is_book w ≡ t → Tested w b
    go true u =
        let z : record_number b (facilities_in w) (services_in w) ≡ 0 = sym (e ∙ rw u) in
        record { usable = usable w u; is_taken = z; long = (named (facilities_in w) (services_in w) b z).long }
    go false u = let z : ◌≡◌ {A = ℕ} 0 1 = e ∙ rw u in absurd (omega arith)

-- ---- what the call names

module _ (w : List ℤ) (b : List ℕ) (t : Tested w b) where
  in_book : Named (facilities_in w) (services_in w) b
  in_book = named (facilities_in w) (services_in w) b t.is_taken

  pub one_of_nine : Which b
  one_of_nine = in_book.which

  -- a call that uses byte 6, and one that uses byte 7 too
  at_facility : {k : ℕ} → call_of b ≡ k → uses b 6 ≡ true → Facility w b k
  at_facility e u = record { tested = t; call_is = e; facility_in = in_book.facility_in u }

  at_place : {k : ℕ} → call_of b ≡ k → (uses b 6 ≡ true) × (uses b 7 ≡ true) → Place w b k
  at_place e u = record { tested = t; call_is = e; facility_in = in_book.facility_in u.0; service_in = in_book.service_in u.1 }

  pub capability_facility : call_of b ≡ 2 → Facility w b 2
  capability_facility e = at_facility e (capability_uses b e)

  pub outage_facility : call_of b ≡ 5 → Facility w b 5
  outage_facility e = at_facility e (outage_uses b e)

  pub standing_place : call_of b ≡ 3 → Place w b 3
  standing_place e = at_place e (standing_uses b e)

  pub variation_place : call_of b ≡ 4 → Place w b 4
  variation_place e = at_place e (variation_uses b e)

  pub look_up_place : call_of b ≡ 8 → Place w b 8
  look_up_place e = at_place e (look_up_uses b e)

  pub total_service : call_of b ≡ 9 → service_of b < services_in w
  total_service e = in_book.service_in (total_uses b e)
