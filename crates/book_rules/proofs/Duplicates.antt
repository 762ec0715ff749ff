-- A filed offer is equal to a held one exactly where the words of its cell would be, the minute aside.
use mathlib.Core.Path.{◌≡◌, refl, sym, ap, ◌∙◌}
use mathlib.Core.Bool.{Bool, true, false, ◌&&◌, and-false, and_assoc, true≢false}
use mathlib.Core.List.{[], ◌∷◌}
use Prim.Native.Nat.{ℕ, zero, suc, ◌+◌, ◌*◌, ◌/◌, ◌%◌, ◌≤◌}
use native.Mathlib.Omega.{arith}
use lib.Dec.{eqb}
use lib.IntN.{ℤ, pos, negsuc, neg_ℤ}
use lib.Signed.{quot_z, rem_z}
use lib.ListN.{drop}
use borrow.Author.Tests.{eqb-true, eq-eqb}
use Rattle.offer_rules.specs.Numbers.{eq_z, word, beyond}
use Rattle.offer_rules.specs.Offer.{most_ramp}
use Rattle.offer_rules.proofs.Ranges.{within}
use Rattle.book_rules.specs.Words.{ramp_unit, packed_ramps, cell, cell_held}
use Rattle.book_rules.specs.Refusals.{equal_words}
use Rattle.book_rules.specs.Claims.{EqualInCellWords}
use Rattle.book_rules.proofs.Cells.{each_fits}

counts : (n u d : ℕ) → d ≤ 9999 → (eqb (n / 10000) u && eqb (n % 10000) d) ≡ eqb n (u * 10000 + d)
counts n u d h = by (eqb n (u * 10000 + d)) refl
  where
    apart : (eqb n (u * 10000 + d) ≡ false) → (a b : Bool) → eqb (n / 10000) u ≡ a → eqb (n % 10000) d ≡ b → (a && b) ≡ false
    apart e false b x y = refl
    apart e true false x y = refl
    apart e true true x y =
        let q = eqb-true (n / 10000) u x in
        let r = eqb-true (n % 10000) d y in
        absurd (true≢false (sym (eq-eqb n (u * 10000 + d) (omega arith)) ∙ e))

    by : (t : Bool) → eqb n (u * 10000 + d) ≡ t → (eqb (n / 10000) u && eqb (n % 10000) d) ≡ t
    by true e =
        let z = eqb-true n (u * 10000 + d) e in
        rw (eq-eqb (n / 10000) u (omega arith), eq-eqb (n % 10000) d (omega arith)) refl
    by false e = apart e (eqb (n / 10000) u) (eqb (n % 10000) d) refl refl

below_zero : (a b u d : ℕ) → (a ≡ 0 → b ≡ 0 → ⊥) → (eq_z (neg_ℤ (pos a)) (pos u) && eq_z (neg_ℤ (pos b)) (pos d)) ≡ false
below_zero (suc a) b u d h = refl
below_zero zero (suc b) u d h = and-false (eqb 0 u)
below_zero zero zero u d h = absurd (h refl refl)

-- Of ramps that fit, both are those of word 2 exactly where it is the word that they make.
both_ramps : (w u d : ℤ) → beyond (pos 0) most_ramp u ≡ false → beyond (pos 0) most_ramp d ≡ false
    → (eq_z (quot_z w ramp_unit) u && eq_z (rem_z w ramp_unit) d) ≡ eq_z w (packed_ramps u d)
both_ramps (pos n) (pos u) (pos d) hu hd = counts n u d (within _ _ d hd).1
both_ramps (negsuc n) (pos u) (pos d) hu hd = below_zero (suc n / 10000) (suc n % 10000) u d (λ a b. omega arith)
both_ramps w (pos u) (negsuc d) hu hd = absurd (true≢false hd)
both_ramps w (negsuc u) d hu hd = absurd (true≢false hu)

pub equal_in_cell_words : EqualInCellWords
unfolding EqualInCellWords cell cell_held equal_words
equal_in_cell_words c [] stamp now n e = absurd (omega arith)
equal_in_cell_words c (p ∷ []) stamp now n e = absurd (omega arith)
equal_in_cell_words c (p ∷ (u ∷ [])) stamp now n e = absurd (omega arith)
equal_in_cell_words c (p ∷ (u ∷ (d ∷ l))) stamp now n e =
    let fit = each_fits (p ∷ (u ∷ (d ∷ l))) e in
    ap (λ (t : Bool). eq_z (word c 1) p && t)
    (sym (and_assoc (eq_z (quot_z (word c 2) ramp_unit) u) (eq_z (rem_z (word c 2) ramp_unit) d) (equal_words (drop 4 c) l))
    ∙ ap (λ (t : Bool). t && equal_words (drop 4 c) l) (both_ramps (word c 2) u d fit.0 fit.1))
