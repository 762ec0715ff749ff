-- Each sentence that names a kind, by the rows of the table.
use mathlib.Core.Path.{◌≡◌, refl, sym, ◌∙◌, ap, ap₂}
use mathlib.Core.Bool.{Bool, true, false, not, ◌&&◌, ◌||◌, and-true, and-false, or-true, or-false, and_assoc}
use mathlib.Core.List.{List}
use Prim.Native.Nat.{ℕ, zero, suc}
use native.Mathlib.Omega.{arith}
use lib.Dec.{ltb}
use lib.IntN.{ℤ, pos, negsuc}
use lib.Signed.{lt_z}
use borrow.Author.Tests.{lt-ltb, le-leb, lt-leb, ne_eqb}
use Rattle.offer_rules.specs.Numbers.{eq_z, between, beyond}
use Rattle.offer_rules.specs.Kinds.{Kind, kind_row, is_in, is_kind, admits}
use Rattle.offer_rules.specs.Offer.{kind_of, is_energy, is_reserve, max_proportion, proportion, proportion_refused}
use Rattle.offer_rules.specs.Gate.{covers, admits_service, period_covered, total_moved, reason_holds}
use Rattle.offer_rules.proofs.KindRows.{each_kind}
use Rattle.book_rules.specs.Refusals.{has_kind, kind_refused, any_mark_astray, marks_refused}
use Rattle.book_rules.specs.ByKind.{is_generation, is_load, is_one_of_three, ThreeKinds, HeldKinds, Outages, Capabilities, Registrations, Proportions, Reasons}

the_three : (kind : ℤ) → is_kind kind ≡ is_one_of_three kind
unfolding kind_row
the_three = each_kind (λ z. is_kind z ≡ is_one_of_three z) refl refl refl (λ z none a b c. ap (λ (k : Kind). k.known) none ∙ rw (a, b, c) refl)

pub three_kinds : ThreeKinds
unfolding ThreeKinds has_kind
three_kinds c = the_three (kind_of c)

pub held_kinds : HeldKinds
unfolding HeldKinds kind_refused has_kind
held_kinds held kind = ap₂ (λ (sent h : Bool). not sent || (h && not (eq_z (kind_of held) kind))) (the_three kind) (the_three (kind_of held))

-- ---- by the capability's kind

by_kind : {X : Type 0} → (kind : ℤ) → (kind ≡ pos 1 → X) → (kind ≡ pos 2 → X) → (kind ≡ pos 3 → X)
    → (eq_z kind (pos 1) ≡ false → eq_z kind (pos 2) ≡ false → eq_z kind (pos 3) ≡ false → X) → X
by_kind {X} kind generation load link other =
    each_kind (λ z. z ≡ kind → X) (λ e. generation (sym e)) (λ e. load (sym e)) (λ e. link (sym e))
    (λ z none a b c e. other (rw e at a) (rw e at b) (rw e at c)) kind refl

-- No count is within 1 to 0.
no_count : (n : ℤ) → beyond (pos 1) (pos 0) n ≡ true
no_count (pos zero) = refl
no_count (pos (suc n)) = rw (lt-ltb 0 (suc n) (omega arith), or-true (ltb (suc n) 1))
no_count (negsuc n) = refl

pub outages : Outages
unfolding Outages has_kind kind_row
outages now c m n =
    by_kind (kind_of c) (λ e. rw e (sym (or-false _))) (λ e. rw e (sym (or-false _))) (λ e. rw e (simp (no_count, or-true))) (λ a b c. rw (a, b, c) (sym (or-false _)))

-- A word that is no kind is refused as a kind, whatever is held.
no_kind_sent : (held : List ℤ) (kind : ℤ) → eq_z kind (pos 1) ≡ false → eq_z kind (pos 2) ≡ false → eq_z kind (pos 3) ≡ false → kind_refused held kind ≡ true
unfolding kind_refused
no_kind_sent held kind a b c =
    let none : is_kind kind ≡ false = the_three kind ∙ rw (a, b, c) in
    ap (λ (sent : Bool). not sent || (has_kind held && not (eq_z (kind_of held) kind))) none

pub capabilities : Capabilities
unfolding Capabilities kind_row marks_refused any_mark_astray
capabilities held c =
    by_kind (kind_of c) (λ e. rw e (simp (and-false, or-false))) (λ e. rw e (simp (and-false, and-true, or-false))) (λ e. rw e (simp (and-false, and-true, or-false)))
    (λ a b d. rw (no_kind_sent held (kind_of c) a b d) refl)

energy_alone : (s : ℕ) → between 0 0 s ≡ is_energy s
energy_alone zero = refl
energy_alone (suc n) = rw (lt-leb (suc n) 0 (omega arith), le-leb 0 (suc n) (omega arith), ne_eqb (suc n) 0 (λ e. omega arith)) refl

pub registrations : Registrations
unfolding Registrations has_kind kind_row
registrations c s low =
    by_kind (kind_of c) (λ e. rw (e, all) refl) (λ e. rw (e, all) refl) (λ e. rw (e, energy_alone s) refl) (λ a b c. rw (a, b, c, all) refl)
  where
    all : between 0 4 s ≡ true
    all = rw (le-leb 0 s (omega arith), le-leb s 4 low) refl

pub proportions : Proportions
unfolding Proportions proportion_refused kind_row
proportions c s o =
    ap (λ (t : Bool). (t && is_reserve s) && (eq_z (proportion o) (pos 0) || lt_z (max_proportion c s) (proportion o)))
    (each_kind (λ z. (kind_row z).proportion_tested ≡ is_generation z) refl refl refl (λ z none a b c. ap (λ (k : Kind). k.proportion_tested) none ∙ sym a) (kind_of c))

-- ---- 17

-- Whom a reason admits, kind by kind.
whom : (reason : ℕ) (t : ℤ → Bool) → admits (pos 1) reason ≡ t (pos 1) → admits (pos 2) reason ≡ t (pos 2) → admits (pos 3) reason ≡ t (pos 3)
    → ((z : ℤ) → kind_row z ≡ kind_row (pos 0) → eq_z z (pos 1) ≡ false → eq_z z (pos 2) ≡ false → t z ≡ admits (pos 0) reason)
    → (z : ℤ) → admits z reason ≡ t z
whom reason t generation load link other =
    each_kind (λ z. admits z reason ≡ t z) generation load link
    (λ z none a b c. ap (λ (k : Kind). is_in k.reasons reason) none ∙ sym (other z none a b))

-- A reason that asks nothing of the service, and one that does.
asks_kind : (k c m : Bool) → ((k && true) && (c && m)) ≡ (k && (c && m))
asks_kind k c m = rw and-true

asks_service : (k s c m : Bool) → ((k && s) && (c && m)) ≡ (k && ((s && c) && m))
asks_service k s c m = simp and_assoc

pub reasons : Reasons
unfolding Reasons reason_holds admits_service period_covered total_moved kind_row
reasons g s p old new =
    let z = g.kind in (
      asks_kind (admits z 0) true true ∙ ap (λ (t : Bool). t && true) (whom 0 (λ z. false) refl refl refl (λ z none a b. refl) z),
      asks_kind (admits z 1) true true ∙ and-true (admits z 1) ∙ whom 1 is_generation refl refl refl (λ z none a b. a) z,
      asks_kind (admits z 2) (covers g.outage p) true
          ∙ ap₂ ◌&&◌ (whom 2 is_generation refl refl refl (λ z none a b. a) z) (and-true (covers g.outage p)),
      asks_service (admits z 3) (is_energy s) (covers g.surplus p) (ltb new old)
          ∙ ap (λ (t : Bool). t && ((is_energy s && covers g.surplus p) && ltb new old)) (whom 3 (λ z. true) refl refl refl (λ z none a b. refl) z),
      asks_kind (admits z 4) (covers g.shortfall p) (ltb old new)
          ∙ ap (λ (t : Bool). t && (covers g.shortfall p && ltb old new)) (whom 4 (λ z. true) refl refl refl (λ z none a b. refl) z),
      asks_kind (admits z 5) (covers g.status p) (ltb old new)
          ∙ ap (λ (t : Bool). t && (covers g.status p && ltb old new)) (whom 5 (λ z. true) refl refl refl (λ z none a b. refl) z),
      asks_kind (admits z 6) (covers g.outage p) true ∙ ap₂ ◌&&◌ (whom 6 is_load refl refl refl (λ z none a b. b) z) (and-true (covers g.outage p)),
    )
