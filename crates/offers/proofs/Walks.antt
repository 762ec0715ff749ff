-- What a walk finds of the pairs before the first blank, and what is tested of those from it on, give refusals 11 to 13.
use Rattle.std.proofs.Common.{◌≡◌, refl, sym, ap, ap₂, ◌∙◌, Bool, true, false, not, cond, ◌&&◌, ◌||◌, List, [], ◌∷◌, ◌++◌, ℕ, zero, suc, ◌+◌, ◌-◌, ◌*◌, ◌<◌, ◌≤◌, eqb, length, get_or, take, drop, length-drop, length-take-le, drop-drop, take_all, ℤ, pos, nat_abs, ◌+ℤ◌, Option, Some, None, Result, Ok, Err, IfOk, arith}
use Rattle.std.proofs.Math.ListN.{drop_of_length-le}
use Rattle.std.proofs.lemmas.List.{map-append, take-append-drop, length-map, drop-map}
use mathlib.Core.Bool.{and-true, true≢false, false≢true}
use borrow.Author.Tests.{ltb-false, eqb-false, not-true, not-false}
use Rattle.std.specs.List.{list_all, list_any}
use lib.Signed.{lt_z}
use lib.IntN.{negsuc, +ℤ_assoc, +ℤ_idl, +ℤ_idr}
use Rattle.offer_rules.specs.Numbers.{eq_z, beyond, any_beyond, draw, ◌then◌}
use Rattle.offer_rules.specs.Offer.{Pair, pairs_in, pairs, is_blank, all_blank, filled_part, BlanksLast, sum_of, any_pair, is_priced_blank, blank_before_filled, blank_refused, non_blank_prices, rises}
use Rattle.offer_rules.proofs.Drawn.{and_left, and_right, or_left, or_right}
use Rattle.offer_rules.proofs.Ranges.{same_word}
use Rattle.offer_rules.proofs.Pairs.{pair_at, pairs_from, no_pairs_from}
use Rattle.offer_rules.proofs.Blanks.{none_before, blanks_have_none, sum_of_first, prices_of_first}
use Rattle.layout.specs.Refusal.{number, drawn}
use Rattle.layout.specs.declared.refusal.Refusal.{Refusal}
use Rattle.layout.specs.declared.refusal.Refusal.TheVariants.{OutOfRange}
use Rattle.units.specs.Typed.{price_of, quantity_of, typed, pair_of, pairs_of}
use Rattle.units.specs.declared.Price.{Price}
use Rattle.units.specs.declared.Pair as typed
use Rattle.units.specs.declared.Quantity.{Quantity}
use Rattle.units.proofs.Adding.{abs_add}
use Rattle.offers.specs.declared.walk.Findings.{Findings}
use Rattle.offers.proofs.Pairing.{pair_next}
use Rattle.offers.specs.PairTests.{blank, pair_is_out, no_pair, is_empty, all_empty, still_rises, with_filled, none_yet, found_from, pairs_number, used_pairs, UsesFive}

pub total_grows : (f : Findings) (p : Price) (q : Quantity) → nat_abs (with_filled f p q).total.0 ≤ nat_abs f.total.0 + nat_abs q.0
unfolding with_filled
total_grows f p q = abs_add f.total.0 q.0

-- ---- the filled part, walked to its end

abbrev one_more : Findings → Pair → Findings
one_more f x = with_filled f (price_of x.price) (quantity_of x.quantity)

abbrev walked : Findings → List Pair → Findings
walked f [] = f
walked f (x ∷ l) = walked (one_more f x) l

walked_count : (f : Findings) (l : List Pair) → (walked f l).filled ≡ f.filled + length l
unfolding with_filled
walked_count f [] = omega arith
walked_count f (x ∷ l) = walked_count (one_more f x) l ∙ omega arith

walked_total : (f : Findings) (l : List Pair) → (walked f l).total.0 ≡ f.total.0 +ℤ sum_of l
unfolding sum_of with_filled
walked_total f [] = sym (+ℤ_idr f.total.0)
walked_total f (x ∷ l) =
    walked_total (one_more f x) l ∙ +ℤ_assoc f.total.0 x.quantity (sum_of l)

-- strictly rising after a price, if there is one
abbrev rises_after : Option Price → List ℤ → Bool
rises_after None ps = rises ps
rises_after (Some last) ps = rises (last.0 ∷ ps)

rises_none : (last : Option Price) → true ≡ rises_after last []
unfolding rises
rises_none None = refl
rises_none (Some last) = refl

rises_past : (r : Bool) (last : Option Price) (p : Price) (ps : List ℤ) → (still_rises r last p && rises (p.0 ∷ ps)) ≡ (r && rises_after last (p.0 ∷ ps))
unfolding still_rises rises
rises_past false last p ps = refl
rises_past true None p ps = refl
rises_past true (Some last) p ps = refl

walked_rises : (f : Findings) (l : List Pair) → (walked f (filled_part l)).rises ≡ (f.rises && rises_after f.last (non_blank_prices (filled_part l)))
unfolding filled_part non_blank_prices with_filled
walked_rises f [] = sym (and-true f.rises) ∙ ap (λ (t : Bool). f.rises && t) (rises_none f.last)
walked_rises f (x ∷ l) =
    let p = price_of x.price in
    go (is_blank x) refl (walked_rises (one_more f x) l ∙ rises_past f.rises f.last p (non_blank_prices (filled_part l)))
  where
    go : (t : Bool) → is_blank x ≡ t
        → (walked (one_more f x) (filled_part l)).rises ≡ (f.rises && rises_after f.last (x.price ∷ non_blank_prices (filled_part l)))
        → (walked f (cond t [] (x ∷ filled_part l))).rises ≡ (f.rises && rises_after f.last (non_blank_prices (cond t [] (x ∷ filled_part l))))
    go true e k = sym (and-true f.rises) ∙ ap (λ (t : Bool). f.rises && t) (rises_none f.last)
    go false e k = rw e k

-- ---- from the first blank on

unfoldable pub from_blank : List Pair → List Pair
from_blank [] = []
from_blank (x ∷ l) = cond (is_blank x) (x ∷ l) (from_blank l)

rest_after : (l : List Pair) → drop (length (filled_part l)) l ≡ from_blank l
unfolding filled_part from_blank
rest_after [] = refl
rest_after (x ∷ l) = go (is_blank x) (rest_after l)
  where
    go : (t : Bool) → drop (length (filled_part l)) l ≡ from_blank l → drop (length (cond t [] (x ∷ filled_part l))) (x ∷ l) ≡ cond t (x ∷ l) (from_blank l)
    go true k = refl
    go false k = k

-- 12 goes by them alone
refused_rest : (l : List Pair) → blank_refused l ≡ blank_refused (from_blank l)
unfolding blank_refused any_pair is_priced_blank blank_before_filled from_blank
refused_rest [] = refl
refused_rest (x ∷ l) = go (is_blank x) refl (refused_rest l)
  where
    go : (t : Bool) → is_blank x ≡ t → blank_refused l ≡ blank_refused (from_blank l) → blank_refused (x ∷ l) ≡ blank_refused (cond t (x ∷ l) (from_blank l))
    go true e k = refl
    go false e k = rw e k

all_empty_blank : (l : List Pair) → all_empty l ≡ true → all_blank l ≡ true
unfolding all_empty all_blank is_blank
all_empty_blank [] h = refl
all_empty_blank (x ∷ l) h =
    let e = is_empty (price_of x.price) (quantity_of x.quantity) in
    rw (and_left (eq_z x.quantity (pos 0)) _ (and_left e (all_empty l) h), all_empty_blank l (and_right e (all_empty l) h))

none_priced : (l : List Pair) → all_empty l ≡ true → any_pair is_priced_blank l ≡ false
unfolding all_empty any_pair is_priced_blank is_blank
none_priced [] h = refl
none_priced (x ∷ l) h =
    let e = is_empty (price_of x.price) (quantity_of x.quantity) in
    let k = and_left e (all_empty l) h in
    rw (and_left (eq_z x.quantity (pos 0)) _ k, and_right (eq_z x.quantity (pos 0)) _ k, none_priced l (and_right e (all_empty l) h))

empty_passes : (l : List Pair) → all_empty l ≡ true → blank_refused l ≡ false
unfolding blank_refused
empty_passes l h = rw (none_priced l h, blanks_have_none l (all_empty_blank l h))

-- blanks without a price are empty
blanks_empty : (l : List Pair) → all_blank l ≡ true → any_pair is_priced_blank l ≡ false → all_empty l ≡ true
unfolding all_empty all_blank any_pair is_priced_blank is_blank
blanks_empty [] h k = refl
blanks_empty (x ∷ l) h k =
    let b = and_left (eq_z x.quantity (pos 0)) (all_blank l) h in
    let priced = eq_z x.quantity (pos 0) && not (eq_z x.price (pos 0)) in
    let n = or_left priced (any_pair is_priced_blank l) k in
    rw (b, not-false (eq_z x.price (pos 0)) (rw b at n), blanks_empty l (and_right (eq_z x.quantity (pos 0)) (all_blank l) h) (or_right priced (any_pair is_priced_blank l) k))

-- after a blank, what isn't empty is refused
filled_refused : (x : Pair) (l : List Pair) → is_blank x ≡ true → all_empty (x ∷ l) ≡ false → blank_refused (x ∷ l) ≡ true
unfolding blank_refused blank_before_filled
filled_refused x l b h = go (any_pair is_priced_blank (x ∷ l)) (all_blank l) refl refl
  where
    go : (t s : Bool) → any_pair is_priced_blank (x ∷ l) ≡ t → all_blank l ≡ s → (t || ((is_blank x && not s) || blank_before_filled l)) ≡ true
    go true s e k = refl
    go false true e k = absurd (false≢true (sym h ∙ blanks_empty (x ∷ l) (unfold all_blank in rw (b, k)) e))
    go false false e k = rw b

rest_refused : (l : List Pair) → all_empty (from_blank l) ≡ false → blank_refused (from_blank l) ≡ true
unfolding from_blank all_empty
rest_refused [] h = absurd (true≢false h)
rest_refused (x ∷ l) h = go (is_blank x) refl h (rest_refused l)
  where
    go : (t : Bool) → is_blank x ≡ t → all_empty (cond t (x ∷ l) (from_blank l)) ≡ false → (all_empty (from_blank l) ≡ false → blank_refused (from_blank l) ≡ true)
        → blank_refused (cond t (x ∷ l) (from_blank l)) ≡ true
    go true e k later = filled_refused x l e k
    go false e k later = later k

-- ---- 11

module _ (lowest highest : Price) where
  abbrev is_out : Pair → Bool
  is_out = pair_is_out lowest highest

  abbrev found : Findings → List Pair → Result Findings Refusal
  found = found_from lowest highest

  -- ---- one pair more, and more pairs

  abbrev turn : Findings → Pair → Result Findings Refusal → Bool → Bool → Result Findings Refusal
  turn f x on t b = cond t (Err OutOfRange) (cond b (Ok f) on)

  pub found_ends : (f : Findings) (x : Pair) (l : List Pair) → is_out x ≡ true → found f (x ∷ l) ≡ Err OutOfRange
  unfolding found_from
  found_ends f x l o = ap (λ (t : Bool). turn f x (found (one_more f x) l) t (blank (quantity_of x.quantity))) o

  pub found_stops : (f : Findings) (x : Pair) (l : List Pair) → is_out x ≡ false → is_blank x ≡ true → found f (x ∷ l) ≡ Ok f
  unfolding found_from is_blank
  found_stops f x l o b = ap₂ (λ (t s : Bool). turn f x (found (one_more f x) l) t s) o b

  pub found_goes_on : (f : Findings) (x : Pair) (l : List Pair) → is_out x ≡ false → is_blank x ≡ false → found f (x ∷ l) ≡ found (one_more f x) l
  unfolding found_from is_blank
  found_goes_on f x l o b = ap₂ (λ (t s : Bool). turn f x (found (one_more f x) l) t s) o b

  pub found_none : (f : Findings) → found f [] ≡ Ok f
  unfolding found_from
  found_none f = refl

  -- among pairs two words each
  module _ (f : Findings) (ws : List (List ℤ)) (i : ℕ) where
    pub none_left : length ws ≤ i → found f (pairs_of (drop i ws)) ≡ Ok f
    none_left h = rw (drop_of_length-le ws h) (found_none f)

    module _ (x : typed.Pair) (h : i < length ws) (e : x ≡ typed (get_or ws i [])) where
      next : pairs_of (drop i ws) ≡ pair_of x ∷ pairs_of (drop (i + 1) ws)
      next = rw e (pair_next ws i h)

      pub ends_here : is_out (pair_of x) ≡ true → found f (pairs_of (drop i ws)) ≡ Err OutOfRange
      ends_here o = ap (found f) next ∙ found_ends f (pair_of x) (pairs_of (drop (i + 1) ws)) o

      pub stops_here : is_out (pair_of x) ≡ false → is_blank (pair_of x) ≡ true → found f (pairs_of (drop i ws)) ≡ Ok f
      stops_here o b = ap (found f) next ∙ found_stops f (pair_of x) (pairs_of (drop (i + 1) ws)) o b

      pub goes_on_here : is_out (pair_of x) ≡ false → is_blank (pair_of x) ≡ false
          → found f (pairs_of (drop i ws)) ≡ found (with_filled f x.price x.quantity) (pairs_of (drop (i + 1) ws))
      goes_on_here o b = ap (found f) next ∙ found_goes_on f (pair_of x) (pairs_of (drop (i + 1) ws)) o b

  -- where it ends among some pairs, it ends there among more
  pub ends_before : (f : Findings) (a b : List Pair) (r : Refusal) → found f a ≡ Err r → found f (a ++ b) ≡ Err r
  unfolding found_from
  ends_before f [] b r h = absurd (cc)
  ends_before f (x ∷ a) b r h = go (is_out x) (blank (quantity_of x.quantity)) h (ends_before (one_more f x) a b r)
    where
      go : (t s : Bool) → turn f x (found (one_more f x) a) t s ≡ Err r → (found (one_more f x) a ≡ Err r → found (one_more f x) (a ++ b) ≡ Err r)
          → turn f x (found (one_more f x) (a ++ b)) t s ≡ Err r
      go true s k later = k
      go false true k later = k
      go false false k later = later k

  pub stops_before : (f g : Findings) (a b : List Pair) → found f a ≡ Ok g → g.filled < f.filled + length a → found f (a ++ b) ≡ Ok g
  unfolding found_from with_filled
  stops_before f g [] b h k =
      let e : g.filled ≡ f.filled = cc in
      absurd (omega arith)
  stops_before f g (x ∷ a) b h k =
      go (is_out x) (blank (quantity_of x.quantity)) h (λ e. stops_before (one_more f x) g a b e (omega arith))
    where
      go : (t s : Bool) → turn f x (found (one_more f x) a) t s ≡ Ok g → (found (one_more f x) a ≡ Ok g → found (one_more f x) (a ++ b) ≡ Ok g)
          → turn f x (found (one_more f x) (a ++ b)) t s ≡ Ok g
      go true s e later = e
      go false true e later = e
      go false false e later = later e

  pub goes_past : (f g : Findings) (a b : List Pair) → found f a ≡ Ok g → f.filled + length a ≤ g.filled → found f (a ++ b) ≡ found g b
  unfolding found_from with_filled
  goes_past f g [] b h k = let e : f ≡ g = cc in ap (λ (y : Findings). found y b) e
  goes_past f g (x ∷ a) b h k =
      go (is_out x) (blank (quantity_of x.quantity)) h (λ e. goes_past (one_more f x) g a b e (omega arith))
    where
      go : (t s : Bool) → turn f x (found (one_more f x) a) t s ≡ Ok g → (found (one_more f x) a ≡ Ok g → found (one_more f x) (a ++ b) ≡ found g b)
          → turn f x (found (one_more f x) (a ++ b)) t s ≡ found g b
      go true s e later = absurd (cc)
      go false true e later =
          let n : f.filled ≡ g.filled = cc in
          absurd (omega arith)
      go false false e later = later e

  -- a pair out of range is the end of the walk
  out_found : (f : Findings) (l : List Pair) (r : Refusal) → found f l ≡ Err r → (any_pair is_out l ≡ true) × (number r ≡ 11)
  unfolding found_from any_pair
  out_found f [] r h = absurd (cc)
  out_found f (x ∷ l) r h = go (is_out x) (blank (quantity_of x.quantity)) h (out_found (one_more f x) l r)
    where
      go : (t b : Bool) → turn f x (found (one_more f x) l) t b ≡ Err r → (found (one_more f x) l ≡ Err r → (any_pair is_out l ≡ true) × (number r ≡ 11))
          → ((t || any_pair is_out l) ≡ true) × (number r ≡ 11)
      go true b k later = (refl, sym (ap drawn k))
      go false true k later = absurd (cc)
      go false false k later = later k

  -- where it has found none, it has gone to the end of the filled part
  gone : (f g : Findings) (l : List Pair) → found f l ≡ Ok g → g ≡ walked f (filled_part l)
  unfolding found_from filled_part is_blank
  gone f g [] h = let e : g ≡ f = cc in e
  gone f g (x ∷ l) h = go (is_out x) (blank (quantity_of x.quantity)) h (gone (one_more f x) g l)
    where
      go : (t b : Bool) → turn f x (found (one_more f x) l) t b ≡ Ok g → (found (one_more f x) l ≡ Ok g → g ≡ walked (one_more f x) (filled_part l))
          → g ≡ walked f (cond b [] (x ∷ filled_part l))
      go true b k later = absurd (cc)
      go false true k later = let e : g ≡ f = cc in e
      go false false k later = later k

  -- and what is out of range comes from the first blank on
  out_rest : (f g : Findings) (l : List Pair) → found f l ≡ Ok g → any_pair is_out l ≡ any_pair is_out (from_blank l)
  unfolding found_from any_pair from_blank is_blank
  out_rest f g [] h = refl
  out_rest f g (x ∷ l) h = go (is_out x) (blank (quantity_of x.quantity)) refl h (out_rest (one_more f x) g l)
    where
      go : (t b : Bool) → is_out x ≡ t → turn f x (found (one_more f x) l) t b ≡ Ok g
          → (found (one_more f x) l ≡ Ok g → any_pair is_out l ≡ any_pair is_out (from_blank l))
          → (t || any_pair is_out l) ≡ any_pair is_out (cond b (x ∷ l) (from_blank l))
      go true b e k later = absurd (cc)
      go false true e k later = rw e
      go false false e k later = later k

  -- empty pairs are out of range all or none
  alike : (x : Pair) → is_empty (price_of x.price) (quantity_of x.quantity) ≡ true → x ≡ no_pair
  alike x h = ap₂ (λ (p q : ℤ). record { price = p; quantity = q }) (same_word x.price (pos 0) (and_right (eq_z x.quantity (pos 0)) _ h)) (same_word x.quantity (pos 0) (and_left (eq_z x.quantity (pos 0)) _ h))

  empty_in : is_out no_pair ≡ false → (l : List Pair) → all_empty l ≡ true → any_pair is_out l ≡ false
  unfolding any_pair all_empty
  empty_in z [] h = refl
  empty_in z (x ∷ l) h =
      let e = is_empty (price_of x.price) (quantity_of x.quantity) in
      rw (alike x (and_left e (all_empty l) h), z) (empty_in z l (and_right e (all_empty l) h))

  -- the walk ends at an empty pair: it is refused, or blank
  pub suffices : (f : Findings) (l : List Pair) → all_empty l ≡ true → is_out no_pair ≡ false → found f l ≡ Ok f
  unfolding all_empty is_blank
  suffices f [] h o = found_none f
  suffices f (x ∷ l) h o =
      let e = alike x (and_left (is_empty (price_of x.price) (quantity_of x.quantity)) (all_empty l) h) in
      found_stops f x l (ap is_out e ∙ o) (ap is_blank e)

  pub counts_none : (f g : Findings) (l : List Pair) → all_empty l ≡ true → found f l ≡ Ok g → g ≡ f
  unfolding found_from all_empty
  counts_none f g [] h k = let e : g ≡ f = cc in e
  counts_none f g (x ∷ l) h k =
      let b = and_left (eq_z x.quantity (pos 0)) _ (and_left (is_empty (price_of x.price) (quantity_of x.quantity)) (all_empty l) h) in
      go (is_out x) (rw b at k)
    where
      go : (t : Bool) → turn f x (found (one_more f x) l) t true ≡ Ok g → g ≡ f
      go true k = absurd (cc)
      go false k = let e : g ≡ f = cc in e

  -- five pairs of ten
  module _ (ws : List (List ℤ)) (l : List Pair) (e : pairs_of ws ≡ l) (n : length ws ≡ 10) where
    parted : pairs_of (take 5 ws) ++ pairs_of (drop 5 ws) ≡ l
    parted =
        sym (map-append (λ words. pair_of (typed words)) (take 5 ws) (drop 5 ws)) ∙ ap pairs_of (take-append-drop 5 ws) ∙ e

    five_long : length (pairs_of (take 5 ws)) ≡ 5
    five_long = length-map (take 5 ws) (λ words. pair_of (typed words)) ∙ length-take-le 5 ws (omega arith)

    pub five_end : (r : Refusal) → found none_yet (pairs_of (take 5 ws)) ≡ Err r → found none_yet l ≡ Err r
    five_end r h = rw (← parted) (ends_before none_yet (pairs_of (take 5 ws)) (pairs_of (drop 5 ws)) r h)

    pub five_stop : (g : Findings) → found none_yet (pairs_of (take 5 ws)) ≡ Ok g → g.filled < 5 → found none_yet l ≡ Ok g
    five_stop g h k = rw (← parted) (stops_before none_yet g (pairs_of (take 5 ws)) (pairs_of (drop 5 ws)) h (omega (arith, five_long)))

    pub five_pass : (g : Findings) → found none_yet (pairs_of (take 5 ws)) ≡ Ok g → 5 ≤ g.filled → found none_yet l ≡ found g (pairs_of (drop 5 ws))
    five_pass g h k = rw (← parted) (goes_past none_yet g (pairs_of (take 5 ws)) (pairs_of (drop 5 ws)) h (omega (arith, five_long)))

    -- the other five, where no more are used
    module _ (s : ℕ) (unused : all_empty (drop (used_pairs s) l) ≡ true) where
      other_empty : eqb s 0 ≡ false → all_empty (pairs_of (drop 5 ws)) ≡ true
      other_empty z = rw (← drop-map (λ words. pair_of (typed words)) 5 ws, e) (rw z at unused)

      pub five_suffice : (g : Findings) → (not (eqb s 0) && not (is_out no_pair)) ≡ true → found g (pairs_of (drop 5 ws)) ≡ Ok g
      five_suffice g h =
          suffices g (pairs_of (drop 5 ws)) (other_empty (not-true (eqb s 0) (and_left (not (eqb s 0)) (not (is_out no_pair)) h))) (not-true (is_out no_pair) (and_right (not (eqb s 0)) (not (is_out no_pair)) h))

      pub used_counted : (g : Findings) → g.filled ≤ 5 → (r : Result Findings Refusal) → r ≡ found g (pairs_of (drop 5 ws)) → IfOk r (λ f. f.filled ≤ 10) → IfOk r (λ f. f.filled ≤ used_pairs s)
      used_counted g m (Err r) h k = k
      used_counted g m (Ok f) h k = go (eqb s 0) refl
        where
          go : (t : Bool) → eqb s 0 ≡ t → f.filled ≤ cond t 10 5
          go true z = k
          go false z = rw (counts_none g f (pairs_of (drop 5 ws)) (other_empty z) (sym h)) m

  -- the walk has ended at one that is in range
  rest_in : (f g : Findings) (l : List Pair) → found f l ≡ Ok g → all_empty (from_blank l) ≡ true → any_pair is_out (from_blank l) ≡ false
  unfolding found_from any_pair from_blank is_blank
  rest_in f g [] h k = refl
  rest_in f g (x ∷ l) h k = go (is_out x) (blank (quantity_of x.quantity)) refl h k (rest_in (one_more f x) g l)
    where
      go : (t b : Bool) → is_out x ≡ t → turn f x (found (one_more f x) l) t b ≡ Ok g → all_empty (cond b (x ∷ l) (from_blank l)) ≡ true
          → (found (one_more f x) l ≡ Ok g → all_empty (from_blank l) ≡ true → any_pair is_out (from_blank l) ≡ false)
          → any_pair is_out (cond b (x ∷ l) (from_blank l)) ≡ false
      go true b e j i later = absurd (cc)
      go false true e j i later =
          let m = is_empty (price_of x.price) (quantity_of x.quantity) in
          empty_in (ap is_out (sym (alike x (and_left m (all_empty l) (unfold all_empty in i)))) ∙ e) (x ∷ l) i
      go false false e j i later = later j i

  -- ---- 11 to 13 of an offer's pairs, as the code tells them apart by what a walk finds

  pub draws_11 : (l : List Pair) (r : Refusal) → found none_yet l ≡ Err r → number r ≡ pairs_number lowest highest l
  unfolding pairs_number draw ◌then◌
  draws_11 l r h = let k = out_found none_yet l r h in rw k.0 k.1

  module _ (l : List Pair) (f : Findings) (is_found : found none_yet l ≡ Ok f) where
    -- from the first blank on
    abbrev rest : List Pair
    rest = drop f.filled l

    to_first_blank : f ≡ walked none_yet (filled_part l)
    to_first_blank = gone none_yet f l is_found

    rest_is : rest ≡ from_blank l
    rest_is =
        let e : f.filled ≡ length (filled_part l) = ap (λ (g : Findings). g.filled) to_first_blank ∙ walked_count none_yet (filled_part l) ∙ omega arith in
        rw e (rest_after l)

    pub draws_11_or_12 : all_empty rest ≡ false → pairs_number lowest highest l ≡ cond (any_pair is_out rest) 11 12
    unfolding pairs_number draw ◌then◌
    draws_11_or_12 e = rw (rest_is, out_rest none_yet f l is_found, refused_rest l, rest_refused l (rw rest_is at e)) (go (any_pair is_out (from_blank l)))
      where
        go : (t : Bool) → ◌≡◌ {A = ℕ} (draw t 11 then (draw true 12 then draw (not (rises (non_blank_prices l))) 13)) (cond t 11 12)
        go true = refl
        go false = refl

    module _ (e : all_empty rest ≡ true) where
      rest_empty : all_empty (from_blank l) ≡ true
      rest_empty = rw rest_is at e

      none_refused : blank_refused l ≡ false
      none_refused = refused_rest l ∙ empty_passes (from_blank l) rest_empty

      -- the promise
      pub come_first : blank_before_filled l ≡ false
      unfolding blank_refused
      come_first = or_right (any_pair is_priced_blank l) (blank_before_filled l) none_refused

      last : BlanksLast l
      last = none_before l come_first

      -- the price order and the total rest on it
      order_found : f.rises ≡ rises (non_blank_prices l)
      order_found = ap (λ (g : Findings). g.rises) to_first_blank ∙ walked_rises none_yet l ∙ ap rises (sym (prices_of_first last))

      pub total_found : f.total.0 ≡ sum_of l
      total_found = ap (λ (g : Findings). g.total.0) to_first_blank ∙ walked_total none_yet (filled_part l) ∙ +ℤ_idl (sum_of (filled_part l)) ∙ sym (sum_of_first last)

      order_draws : pairs_number lowest highest l ≡ draw (not f.rises) 13
      unfolding pairs_number draw ◌then◌
      order_draws = rw (out_rest none_yet f l is_found, rest_in none_yet f l is_found rest_empty, none_refused, order_found)

      pub draws_13 : f.rises ≡ false → pairs_number lowest highest l ≡ 13
      unfolding draw
      draws_13 r = rw r at order_draws

      pub draws_none : f.rises ≡ true → pairs_number lowest highest l ≡ 0
      unfolding draw
      draws_none r = rw r at order_draws

-- ---- words that are all 0 are empty pairs

-- a word that is not outside 0 to 0
word_zero : (z : ℤ) → beyond (pos 0) (pos 0) z ≡ false → z ≡ pos 0
word_zero (pos n) h =
    let e = ltb-false 0 n (or_right (lt_z (pos n) (pos 0)) (lt_z (pos 0) (pos n)) h) in
    ap pos (omega arith)
word_zero (negsuc n) h = absurd (true≢false h)

-- two words of some that are all 0
two_zero : (ws : List ℤ) (i n : ℕ) → any_beyond (pos 0) (pos 0) ws i (suc (suc n)) ≡ false
    → (get_or ws i (pos 0) ≡ pos 0) × (get_or ws (suc i) (pos 0) ≡ pos 0) × (any_beyond (pos 0) (pos 0) ws (suc (suc i)) n ≡ false)
unfolding any_beyond
two_zero ws i n h =
    let x = beyond (pos 0) (pos 0) (get_or ws i (pos 0)) in
    let y = beyond (pos 0) (pos 0) (get_or ws (suc i) (pos 0)) in
    let later = any_beyond (pos 0) (pos 0) ws (suc (suc i)) n in
    let k = or_right x (y || later) h in
    (word_zero (get_or ws i (pos 0)) (or_left x (y || later) h), word_zero (get_or ws (suc i) (pos 0)) (or_left y later k), or_right y later k)

-- pair i, and those after it
pub empty_from : (ws : List ℤ) (i : ℕ) → 2 * i + 1 < length ws
    → all_empty (pairs_in (drop (2 * i) ws)) ≡ (is_empty (price_of (pair_at ws i).price) (quantity_of (pair_at ws i).quantity) && all_empty (pairs_in (drop (2 * (i + 1)) ws)))
unfolding all_empty
empty_from ws i h = ap all_empty (pairs_from ws i h)

pub none_left_empty : (ws : List ℤ) (n : ℕ) → length ws ≤ n → all_empty (pairs_in (drop n ws)) ≡ true
unfolding all_empty
none_left_empty ws n h = ap all_empty (no_pairs_from ws n (omega arith))

-- the last k pairs, from the i-th on
zeros_empty : (ws : List ℤ) (k i : ℕ) → length ws ≡ 2 * (i + k) → any_beyond (pos 0) (pos 0) ws (2 * i) (2 * k) ≡ false → all_empty (pairs_in (drop (2 * i) ws)) ≡ true
zeros_empty ws zero i h z = none_left_empty ws (2 * i) (omega arith)
zeros_empty ws (suc k) i h z =
    let a : 2 * suc k ≡ suc (suc (2 * k)) = omega arith in
    let b : 2 * (i + 1) ≡ suc (suc (2 * i)) = omega arith in
    let s : 2 * i + 1 ≡ suc (2 * i) = omega arith in
    let t = two_zero ws (2 * i) (2 * k) (rw a at z) in
    empty_from ws i (omega arith) ∙ rw (t.0, s, t.1) (zeros_empty ws k (i + 1) (omega arith) (rw b t.2))

last_five_empty : (ws : List ℤ) → length ws ≡ 20 → any_beyond (pos 0) (pos 0) ws 10 10 ≡ false → all_empty (pairs_in (drop 10 ws)) ≡ true
last_five_empty ws h z = zeros_empty ws 5 5 h z

-- five pairs dropped
pairs_dropped : (k : ℕ) (ws : List ℤ) → pairs_in (drop (2 * k) ws) ≡ drop k (pairs_in ws)
unfolding pairs_in
pairs_dropped zero ws = refl
pairs_dropped (suc k) [] = let e : 2 * suc k ≡ suc (suc (2 * k)) = omega arith in rw e
pairs_dropped (suc k) (p ∷ []) = let e : 2 * suc k ≡ suc (suc (2 * k)) = omega arith in rw e
pairs_dropped (suc k) (p ∷ (q ∷ ws)) = let e : 2 * suc k ≡ suc (suc (2 * k)) = omega arith in rw e (pairs_dropped k ws)

-- the pairs that a service doesn't use are empty
pub unused_empty : (s : ℕ) (o : List ℤ) → length o ≡ 23 → UsesFive s o → all_empty (drop (used_pairs s) (pairs o)) ≡ true
unfolding pairs
unused_empty s o h five = go (eqb s 0) refl
  where
    go : (t : Bool) → eqb s 0 ≡ t → all_empty (drop (cond t 10 5) (pairs_in (drop 3 o))) ≡ true
    go true e = rw (← pairs_dropped 10 (drop 3 o)) (none_left_empty (drop 3 o) 20 (omega (arith, length-drop 3 o)))
    go false e = rw (← pairs_dropped 5 (drop 3 o)) (last_five_empty (drop 3 o) (omega (arith, length-drop 3 o)) (five (eqb-false s 0 e)))

-- ---- pairs two words each, tested one by one

all_tested : (ws : List (List ℤ)) → list_all (λ words. is_empty (typed words).price (typed words).quantity) ws ≡ all_empty (pairs_of ws)
unfolding all_empty
all_tested [] = refl
all_tested (x ∷ ws) =
    ap (λ (t : Bool). is_empty (typed x).price (typed x).quantity && t) (all_tested ws)

any_tested : (lowest highest : Price) (ws : List (List ℤ)) → list_any (λ words. pair_is_out lowest highest (pair_of (typed words))) ws ≡ any_pair (pair_is_out lowest highest) (pairs_of ws)
unfolding any_pair
any_tested lowest highest [] = refl
any_tested lowest highest (x ∷ ws) =
    ap (λ (t : Bool). pair_is_out lowest highest (pair_of (typed x)) || t) (any_tested lowest highest ws)

-- empty pairs at the end change nothing
then_empty : (a b : List Pair) → all_empty b ≡ true → all_empty a ≡ all_empty (a ++ b)
unfolding all_empty
then_empty [] b h = sym h
then_empty (x ∷ a) b h =
    ap (λ (t : Bool). is_empty (price_of x.price) (quantity_of x.quantity) && t) (then_empty a b h)

module _ (ws : List (List ℤ)) (l : List Pair) (e : pairs_of ws ≡ l) (from : ℕ) where
  rest_listed : pairs_of (drop from ws) ≡ drop from l
  rest_listed = sym (drop-map (λ words. pair_of (typed words)) from ws) ∙ ap (drop from) e

  pub tested_empty : (to : ℕ) → from ≤ to → all_empty (drop to l) ≡ true
      → list_all (λ words. is_empty (typed words).price (typed words).quantity) (take (to - from) (drop from ws)) ≡ all_empty (drop from l)
  tested_empty to h empty =
      let there : from + (to - from) ≡ to = omega arith in
      let a = take (to - from) (drop from ws) in
      let b = drop (to - from) (drop from ws) in
      let after : pairs_of b ≡ drop to l =
      ap pairs_of (drop-drop (to - from) from ws) ∙ rw there (sym (drop-map (λ words. pair_of (typed words)) to ws) ∙ ap (drop to) e)
      in
      all_tested a
      ∙ then_empty (pairs_of a) (pairs_of b) (ap all_empty after ∙ empty)
      ∙ ap all_empty (sym (map-append (λ words. pair_of (typed words)) a b) ∙ ap pairs_of (take-append-drop (to - from) (drop from ws)) ∙ rest_listed)

  pub tested_out : (lowest highest : Price) → length ws ≡ 10
      → list_any (λ words. pair_is_out lowest highest (pair_of (typed words))) (take (10 - from) (drop from ws)) ≡ any_pair (pair_is_out lowest highest) (drop from l)
  tested_out lowest highest n =
      ap (list_any (λ words. pair_is_out lowest highest (pair_of (typed words)))) (take_all (10 - from) (drop from ws) (omega (arith, length-drop from ws)))
      ∙ any_tested lowest highest (drop from ws)
      ∙ ap (any_pair (pair_is_out lowest highest)) rest_listed
