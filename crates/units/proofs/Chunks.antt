-- Words taken two by two.
use Rattle.std.proofs.Common.{◌≡◌, ℕ, suc, zero, ◌+◌, ◌*◌, ◌/◌, ◌<◌, length, List, [], ◌∷◌, refl, arith, ap, ◌∙◌}
use Rattle.std.proofs.lemmas.List.{get_or-drop, get_or-take}
use Rattle.std.specs.Prelude.{ℤ, pos, drop, get_or}
use Rattle.std.specs.Simd.{first_chunks}
use Rattle.offer_rules.specs.Numbers.{word}
use Rattle.offer_rules.specs.Offer as rule
use Rattle.offer_rules.specs.Offer.{pairs_in}
use Rattle.units.specs.Typed.{pair_of, pairs_of, typed, pair_at}

abbrev pair_from : ℤ → ℤ → rule.Pair
pair_from p q = record { price = p; quantity = q }

same_pair : {p p' q q' : ℤ} → p ≡ p' → q ≡ q' → pair_from p q ≡ pair_from p' q'
same_pair e f = rw (e, f) refl

-- two words dropped
later : (w : List ℤ) (i : ℕ) → pair_at (drop 2 w) i ≡ pair_at w (suc i)
later w i =
    let e : 2 + 2 * i ≡ 2 * suc i = omega arith in
    let f : 2 + (2 * i + 1) ≡ 2 * suc i + 1 = omega arith in
    same_pair (get_or-drop 2 w (2 * i) (pos 0) ∙ ap (λ (n : ℕ). word w n) e) (get_or-drop 2 w (2 * i + 1) (pos 0) ∙ ap (λ (n : ℕ). word w n) f)

-- chunk i is pair i
pub chunk_of_two : (w : List ℤ) (k i : ℕ) → i < k → pair_of (typed (get_or (first_chunks 2 k w) i [])) ≡ pair_at w i
chunk_of_two w zero i h = absurd (omega arith)
chunk_of_two w (suc k) zero h = same_pair (get_or-take 2 w 0 (pos 0) (omega arith)) (get_or-take 2 w 1 (pos 0) (omega arith))
chunk_of_two w (suc k) (suc i) h = chunk_of_two (drop 2 w) k i (omega arith) ∙ later w i

-- Words taken two by two are the pairs that the words are
pub pairs_taken : (w : List ℤ) (l : List (List ℤ)) → length l ≡ length w / 2 → ((i : ℕ) → i < length l → pair_of (typed (get_or l i [])) ≡ pair_at w i) → pairs_of l ≡ pairs_in w
unfolding pairs_in
pairs_taken [] [] e f = refl
pairs_taken [] (x ∷ l) e f = absurd (omega arith)
pairs_taken (p ∷ []) [] e f = refl
pairs_taken (p ∷ []) (x ∷ l) e f = absurd (omega arith)
pairs_taken (p ∷ (q ∷ w)) [] e f = absurd (omega arith)
pairs_taken (p ∷ (q ∷ w)) (x ∷ l) e f =
    let next : (i : ℕ) → i < length l → pair_of (typed (get_or l i [])) ≡ pair_at w i =
    λ i h. f (suc i) (omega arith) ∙ later i in
    λ i. f 0 (omega arith) i ∷ pairs_taken w l (omega arith) next i
  where
    later : (i : ℕ) → pair_at (p ∷ (q ∷ w)) (suc i) ≡ pair_at w i
    later i =
        let e : 2 * suc i ≡ suc (suc (2 * i)) = omega arith in
        let f : 2 * suc i + 1 ≡ suc (suc (2 * i + 1)) = omega arith in
        rw (f, e) refl
