-- Words as pairs: pair i with those after it, and where there are none.
use mathlib.Core.Path.{◌≡◌, refl, ap, ◌∙◌}
use mathlib.Core.List.{List, [], ◌∷◌}
use Prim.Native.Nat.{ℕ, suc, ◌+◌, ◌*◌, ◌<◌, ◌≤◌}
use native.Mathlib.Omega.{arith}
use lib.IntN.{ℤ, pos}
use lib.ListN.{length, drop, length-drop}
use lib.Seq.{drop-cons}
use Rattle.offer_rules.specs.Numbers.{word}
use Rattle.offer_rules.specs.Offer.{Pair, pairs_in}

drop_two : (w : List ℤ) (i : ℕ) → i + 1 < length w → drop i w ≡ word w i ∷ word w (i + 1) ∷ drop (i + 2) w
drop_two w i h =
    let e : suc i ≡ i + 1 = omega arith in
    let f : suc (i + 1) ≡ i + 2 = omega arith in
    drop-cons w i (pos 0) (omega arith)
    ∙ ap (λ (l : List ℤ). word w i ∷ l)
    (ap (λ (n : ℕ). drop n w) e ∙ drop-cons w (i + 1) (pos 0) h ∙ ap (λ (n : ℕ). word w (i + 1) ∷ drop n w) f)

abbrev pub pair_at : List ℤ → ℕ → Pair
pair_at w i = record { price = word w (2 * i); quantity = word w (2 * i + 1) }

pub pairs_from : (w : List ℤ) (i : ℕ) → 2 * i + 1 < length w → pairs_in (drop (2 * i) w) ≡ pair_at w i ∷ pairs_in (drop (2 * (i + 1)) w)
unfolding pairs_in
pairs_from w i h = let e : 2 * (i + 1) ≡ 2 * i + 2 = omega arith in rw (e, drop_two w (2 * i) h)

-- One word alone is no pair.
too_short : (l : List ℤ) → length l ≤ 1 → pairs_in l ≡ []
unfolding pairs_in
too_short [] h = refl
too_short (p ∷ []) h = refl
too_short (p ∷ (q ∷ l)) h = absurd (omega arith)

pub no_pairs_from : (w : List ℤ) (n : ℕ) → length w ≤ n + 1 → pairs_in (drop n w) ≡ []
no_pairs_from w n h = too_short (drop n w) (rw (length-drop n w) (omega arith))
