-- Words tested one by one: any outside a range.
use Rattle.std.proofs.Common.{◌≡◌, ℕ, suc, zero, ◌+◌, ◌≤◌, ◌∙◌, sym, ap, List, [], ◌∷◌, Bool, false, ◌||◌, refl, length, take, drop, arith}
use Rattle.std.proofs.Math.Bool.{or-false, or_assoc}
use Rattle.std.specs.Prelude.{ℤ, fold}
use Rattle.offer_rules.specs.Numbers.{word, beyond, any_beyond}

module _ (lo hi : ℤ) where
  -- the first word dropped
  shifted : (x : ℤ) (w : List ℤ) (i n : ℕ) → any_beyond lo hi (x ∷ w) (suc i) n ≡ any_beyond lo hi w i n
  unfolding any_beyond
  shifted x w i zero = refl
  shifted x w i (suc n) = ap (λ (t : Bool). beyond lo hi (word w i) || t) (shifted x w (suc i) n)

  -- The test so far, joined to that of the words left, is the test of all.
  so_far : (any : Bool) (w : List ℤ) → fold (λ b x. b || beyond lo hi x) any w ≡ (any || any_beyond lo hi w 0 (length w))
  unfolding any_beyond
  so_far any [] = sym (or-false any)
  so_far any (x ∷ w) =
      so_far (any || beyond lo hi x) w
      ∙ or_assoc any (beyond lo hi x) (any_beyond lo hi w 0 (length w))
      ∙ ap (λ (t : Bool). any || (beyond lo hi x || t)) (sym (shifted x w 0 (length w)))

  pub any_as_fold : (w : List ℤ) → fold (λ any x. any || beyond lo hi x) false w ≡ any_beyond lo hi w 0 (length w)
  any_as_fold w = so_far false w

  -- Those of a part that is lent, as they stand in the whole.
  pub beyond_in_part : (w : List ℤ) (i n : ℕ) → i + n ≤ length w → any_beyond lo hi (take n (drop i w)) 0 (length (take n (drop i w))) ≡ any_beyond lo hi w i n
  unfolding any_beyond
  beyond_in_part w zero zero h = refl
  beyond_in_part [] (suc i) zero h = absurd (omega arith)
  beyond_in_part [] zero (suc n) h = absurd (omega arith)
  beyond_in_part [] (suc i) (suc n) h = absurd (omega arith)
  beyond_in_part (x ∷ w) zero (suc n) h =
      let part = take n w in
      ap (λ (t : Bool). beyond lo hi x || t) (shifted x part 0 (length part) ∙ beyond_in_part w 0 n (omega arith) ∙ sym (shifted x w 0 n))
  beyond_in_part (x ∷ w) (suc i) n h = beyond_in_part w i n (omega arith) ∙ sym (shifted x w i n)
