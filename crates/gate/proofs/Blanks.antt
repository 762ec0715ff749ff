-- Blanks among pairs that are lent as their words: those before the first, and those after the last pair that isn't one.
use Rattle.std.proofs.Common.{◌≡◌, ℕ, zero, suc, Bool, true, false, cond, ◌≤◌, ◌<◌, List, [], ◌∷◌, refl, sym, ap, ◌∙◌, length, get_or, take, drop, arith}
use Rattle.std.specs.Prelude.{ℤ}
use Rattle.std.proofs.lemmas.List.{take-append-drop, map-append}
use Rattle.offer_rules.specs.Offer.{Pair, is_blank, all_blank, filled_part, BlanksAfter}
use Rattle.units.specs.Typed.{typed, pair_of, pairs_of}

abbrev pub is_blank_at : List (List ℤ) → ℕ → Bool
is_blank_at l i = is_blank (pair_of (typed (get_or l i [])))

pub filled_until : (l : List (List ℤ)) (n : ℕ) → n ≤ length l → ((i : ℕ) → i < n → is_blank_at l i ≡ false) → (n < length l → is_blank_at l n ≡ true)
    → n ≡ length (filled_part (pairs_of l))
unfolding filled_part
filled_until [] n h before at = omega arith
filled_until (x ∷ l) zero h before at = rw (at (omega arith)) refl
filled_until (x ∷ l) (suc n) h before at =
    rw (before 0 (omega arith)) (ap suc (filled_until l n (omega arith) (λ i k. before (suc i) (omega arith)) (λ k. at (omega arith))))

pub blank_from : (l : List (List ℤ)) (n : ℕ) → ((i : ℕ) → n ≤ i → i < length l → is_blank_at l i ≡ true) → all_blank (pairs_of (drop n l)) ≡ true
unfolding all_blank
blank_from [] zero h = refl
blank_from [] (suc n) h = refl
blank_from (x ∷ l) zero h = rw (h 0 (omega arith) (omega arith)) (blank_from l zero (λ i k j. h (suc i) (omega arith) (omega arith)))
blank_from (x ∷ l) (suc n) h = blank_from l n (λ i k j. h (suc i) (omega arith) (omega arith))

-- The filled part is as many of the pairs as it counts.
pub part_lent : (l : List (List ℤ)) → pairs_of (take (length (filled_part (pairs_of l))) l) ≡ filled_part (pairs_of l)
unfolding filled_part
part_lent [] = refl
part_lent (x ∷ l) = go (is_blank (pair_of (typed x))) (part_lent l)
  where
    go : (t : Bool) → pairs_of (take (length (filled_part (pairs_of l))) l) ≡ filled_part (pairs_of l)
        → pairs_of (take (length (cond t [] (pair_of (typed x) ∷ filled_part (pairs_of l)))) (x ∷ l)) ≡ cond t [] (pair_of (typed x) ∷ filled_part (pairs_of l))
    go true k = refl
    go false k = ap (λ (m : List Pair). pair_of (typed x) ∷ m) k

-- The pairs before pair n are followed by blanks, where those from it on are blank.
pub blanks_from : (l : List (List ℤ)) (n : ℕ) → all_blank (pairs_of (drop n l)) ≡ true → BlanksAfter (pairs_of (take n l)) (pairs_of l)
blanks_from l n h = record { blanks = pairs_of (drop n l); followed = ap pairs_of (sym (take-append-drop n l)) ∙ map-append (λ words. pair_of (typed words)) (take n l) (drop n l); only_blanks = h }
