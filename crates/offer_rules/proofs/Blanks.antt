-- Blanks after some first pairs: what refusal 12 leaves, and that nothing asked of an offer goes by them.
use mathlib.Core.Path.{◌≡◌, refl, ap, ◌∙◌}
use mathlib.Core.Bool.{Bool, true, false, cond, not, ◌&&◌, true≢false}
use mathlib.Core.List.{List, [], ◌∷◌, ◌++◌}
use Prim.Native.Nat.{ℕ, zero, suc, ◌-◌, ◌≤◌, min}
use native.Mathlib.Omega.{arith}
use lib.Dec.{leb}
use lib.IntN.{pos}
use borrow.Author.Tests.{lt-leb, leb-false, not-false}
use Rattle.offer_rules.specs.Numbers.{between, draw, ◌then◌}
use Rattle.offer_rules.specs.Offer.{Pair, pairs, is_blank, all_blank, filled_part, BlanksAfter, BlanksLast, sum_of, any_pair, out_of_range, is_priced_blank, blank_before_filled, blank_refused, non_blank_prices, offer_number, NoneBeforeFilled, TestedBlanksLast}
use Rattle.offer_rules.specs.Gate.{Grounds, tenths_of, total_tenths, price_of_tenth, same_prices_to, same_prices, is_excepted}
use Rattle.offer_rules.proofs.Drawn.{and_left, and_right, or_left, or_right}
use Rattle.offer_rules.proofs.Ranges.{same_word}

-- ---- what 12 leaves

blanks_alone : (l : List Pair) → all_blank l ≡ true → BlanksAfter [] l
blanks_alone l h = record { blanks = l; followed = refl; only_blanks = h }

longer : (x : Pair) {first l : List Pair} → BlanksAfter first l → BlanksAfter (x ∷ first) (x ∷ l)
longer x h = record { blanks = h.blanks; followed = ap (λ (m : List Pair). x ∷ m) h.followed; only_blanks = h.only_blanks }

-- all of the pairs, and no blanks after them
pub whole : (l : List Pair) → BlanksAfter l l
unfolding all_blank
whole [] = blanks_alone [] refl
whole (x ∷ l) = longer x (whole l)

pub none_before : (l : List Pair) → blank_before_filled l ≡ false → BlanksLast l
unfolding blank_before_filled filled_part all_blank
none_before [] h = whole []
none_before (x ∷ l) h = go (is_blank x) refl (none_before l (or_right (is_blank x && not (all_blank l)) (blank_before_filled l) h))
  where
    go : (t : Bool) → is_blank x ≡ t → BlanksLast l → BlanksAfter (cond t [] (x ∷ filled_part l)) (x ∷ l)
    go true e k =
        let z = or_left (is_blank x && not (all_blank l)) (blank_before_filled l) h in
        blanks_alone (x ∷ l) (rw (e, not-false (all_blank l) (rw e at z)))
    go false e k = longer x k

-- and the other way round
pub blanks_have_none : (l : List Pair) → all_blank l ≡ true → blank_before_filled l ≡ false
unfolding blank_before_filled all_blank
blanks_have_none [] h = refl
blanks_have_none (x ∷ l) h =
    let k = and_right (is_blank x) (all_blank l) h in
    rw (and_left (is_blank x) (all_blank l) h, k, blanks_have_none l k)

filled_have_none : (l blanks : List Pair) → all_blank blanks ≡ true → blank_before_filled (filled_part l ++ blanks) ≡ false
unfolding blank_before_filled filled_part
filled_have_none [] blanks h = blanks_have_none blanks h
filled_have_none (x ∷ l) blanks h = go (is_blank x) refl (filled_have_none l blanks h)
  where
    go : (t : Bool) → is_blank x ≡ t → blank_before_filled (filled_part l ++ blanks) ≡ false → blank_before_filled (cond t [] (x ∷ filled_part l) ++ blanks) ≡ false
    go true e k = blanks_have_none blanks h
    go false e k = rw (e, k)

pub none_before_filled : NoneBeforeFilled
unfolding NoneBeforeFilled
none_before_filled l = (none_before l, λ (h : BlanksLast l). ap blank_before_filled h.followed ∙ filled_have_none l h.blanks h.only_blanks)

pub tested_blanks_last : TestedBlanksLast
unfolding TestedBlanksLast offer_number draw ◌then◌ blank_refused
tested_blanks_last limits c s reason o h = none_before (pairs o) (or_right (any_pair is_priced_blank (pairs o)) _ (go (out_of_range limits s reason o) (blank_refused (pairs o)) _ h))
  where
    go : (a b : Bool) (m : ℕ) → between 11 12 (draw a 11 then (draw b 12 then m)) ≡ false → b ≡ false
    go true b m e = absurd (true≢false e)
    go false true m e = absurd (true≢false e)
    go false false m e = refl

-- ---- nothing asked of an offer goes by the blanks after some first pairs

zero_quantity : (x : Pair) → is_blank x ≡ true → x.quantity ≡ pos 0
unfolding is_blank
zero_quantity x h = same_word x.quantity (pos 0) h

no_sum : (l : List Pair) → all_blank l ≡ true → sum_of l ≡ pos 0
unfolding sum_of all_blank
no_sum [] h = refl
no_sum (x ∷ l) h = rw (zero_quantity x (and_left (is_blank x) (all_blank l) h), no_sum l (and_right (is_blank x) (all_blank l) h))

no_prices : (l : List Pair) → all_blank l ≡ true → non_blank_prices l ≡ []
unfolding non_blank_prices all_blank
no_prices [] h = refl
no_prices (x ∷ l) h = rw (and_left (is_blank x) (all_blank l) h) (no_prices l (and_right (is_blank x) (all_blank l) h))

no_tenths : (l : List Pair) → all_blank l ≡ true → total_tenths l ≡ 0
unfolding total_tenths all_blank
no_tenths [] h = refl
no_tenths (x ∷ l) h = rw (zero_quantity x (and_left (is_blank x) (all_blank l) h), no_tenths l (and_right (is_blank x) (all_blank l) h))

no_priced_tenth : (l : List Pair) → all_blank l ≡ true → (n : ℕ) → 1 ≤ n → price_of_tenth l n ≡ pos 0
unfolding price_of_tenth all_blank
no_priced_tenth [] h n k = refl
no_priced_tenth (x ∷ l) h n k =
    let e : n - 0 ≡ n = omega arith in
    rw (zero_quantity x (and_left (is_blank x) (all_blank l) h), lt-leb n 0 (omega arith), e) (no_priced_tenth l (and_right (is_blank x) (all_blank l) h) n k)

-- What goes through pairs one by one, and comes to as much of the blanks as of none.
before : {A : Type 0} (f : List Pair → A) → ((x : Pair) (l m : List Pair) → f l ≡ f m → f (x ∷ l) ≡ f (x ∷ m)) → (blanks : List Pair) → f blanks ≡ f []
    → (first : List Pair) → f (first ++ blanks) ≡ f first
before f on blanks none [] = none
before f on blanks none (x ∷ l) = on x (l ++ blanks) l (before f on blanks none l)

module _ (blanks : List Pair) (h : all_blank blanks ≡ true) where
  price_before : (first : List Pair) (n : ℕ) → 1 ≤ n → price_of_tenth (first ++ blanks) n ≡ price_of_tenth first n
  unfolding price_of_tenth
  price_before [] n k = no_priced_tenth blanks h n k
  price_before (x ∷ l) n k = go (leb n (tenths_of x)) refl (price_before l (n - tenths_of x))
    where
      go : (t : Bool) → leb n (tenths_of x) ≡ t → (1 ≤ n - tenths_of x → price_of_tenth (l ++ blanks) (n - tenths_of x) ≡ price_of_tenth l (n - tenths_of x))
          → cond t x.price (price_of_tenth (l ++ blanks) (n - tenths_of x)) ≡ cond t x.price (price_of_tenth l (n - tenths_of x))
      go true e later = refl
      go false e later = let m = leb-false n (tenths_of x) e in later (omega (arith, m))

-- 13, 16 and 17 of an offer, by its first pairs
module _ {first l : List Pair} (after : BlanksAfter first l) where
  pub sum_of_first : sum_of l ≡ sum_of first
  unfolding sum_of
  sum_of_first = ap sum_of after.followed ∙ before sum_of (λ x l m e. rw e) after.blanks (no_sum after.blanks after.only_blanks) first

  pub prices_of_first : non_blank_prices l ≡ non_blank_prices first
  unfolding non_blank_prices
  prices_of_first = ap non_blank_prices after.followed ∙ before non_blank_prices (λ x l m e. rw e) after.blanks (no_prices after.blanks after.only_blanks) first

  tenths_of_first : total_tenths l ≡ total_tenths first
  unfolding total_tenths
  tenths_of_first = ap total_tenths after.followed ∙ before total_tenths (λ x l m e. rw e) after.blanks (no_tenths after.blanks after.only_blanks) first

  price_of_first : (n : ℕ) → 1 ≤ n → price_of_tenth l n ≡ price_of_tenth first n
  price_of_first n k = ap (λ (m : List Pair). price_of_tenth m n) after.followed ∙ price_before after.blanks after.only_blanks first n k

module _ {first_old old first_new new : List Pair} (after_old : BlanksAfter first_old old) (after_new : BlanksAfter first_new new) where
  same_to : (n : ℕ) → same_prices_to n old new ≡ same_prices_to n first_old first_new
  unfolding same_prices_to
  same_to zero = refl
  same_to (suc n) = rw (same_to n, price_of_first after_old (suc n) (omega arith), price_of_first after_new (suc n) (omega arith))

  pub excepted_by_first : (g : Grounds) (s p reason : ℕ) → is_excepted g s p reason old new ≡ is_excepted g s p reason first_old first_new
  unfolding is_excepted same_prices
  excepted_by_first g s p reason = rw (tenths_of_first after_old, tenths_of_first after_new, same_to (min (total_tenths first_old) (total_tenths first_new)))

-- An offer's pairs are all blank where its first one is.
pub first_tells : (x : Pair) (l : List Pair) → BlanksLast (x ∷ l) → all_blank (x ∷ l) ≡ is_blank x
unfolding all_blank filled_part
first_tells x l h = go (is_blank x) refl h
  where
    go : (t : Bool) → is_blank x ≡ t → BlanksAfter (cond t [] (x ∷ filled_part l)) (x ∷ l) → (t && all_blank l) ≡ t
    go true e k = and_right (is_blank x) (all_blank l) (ap all_blank k.followed ∙ k.only_blanks)
    go false e k = refl
