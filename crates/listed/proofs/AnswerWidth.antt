-- An answer of the list machine has 24 words: a refusal's and a total's by their definitions, a look-up's since what an offer's call carried is 23 words.
-- So answers written one after another stand 26 numbers apart.
use mathlib.Core.Path.{◌≡◌, refl, ap}
use mathlib.Core.Bool.{Bool, true, false, cond}
use mathlib.Core.List.{List, [], ◌∷◌}
use mathlib.Core.Option.{Option, none, some}
use Prim.Native.Nat.{ℕ, suc}
use native.Mathlib.Omega.{arith}
use lib.Dec.{eqb}
use lib.IntN.{ℤ}
use lib.ListN.{length, length-append}
use Rattle.offer_rules.specs.Numbers.{to_nat}
use Rattle.offer_rules.specs.Offer.{pairs, Held, accepted_at, all_blank}
use Rattle.book_rules.specs.Record.{call_of, facility_of, service_of, period_word, offer_in}
use Rattle.book_rules.specs.Force.{Answer, first_of, in_force, variation_made, plain, shown_at, found_words, found, totalled}
use Rattle.book_rules.specs.Refusals.{look_up_reply, total_reply, reply, number, answer}
use Rattle.book_rules.specs.ListMachine.{newest, list_now, list_standing, list_variation, list_view, list_accept, list_answer}
use Rattle.book_rules.proofs.Calls.{length_offer}
use Rattle.listed.specs.ListAnswered.{numbers_of, TwentySixEach}

-- How many words an offer has; 23 where there is none.
width_of : Option Held → ℕ
width_of none = 23
width_of (some h) = length h.offer

chosen_width : (t : Bool) (x y : Option Held) → width_of x ≡ 23 → width_of y ≡ 23 → width_of (cond t x y) ≡ 23
chosen_width true x y hx hy = hx
chosen_width false x y hx hy = hy

newest_width : (test : List ℕ → Bool) (says : List ℕ → List (List ℕ) → Option Held) (l : List (List ℕ))
    → ((c : List ℕ) (older : List (List ℕ)) → width_of (says c older) ≡ 23) → width_of (newest test says none l) ≡ 23
unfolding newest width_of
newest_width test says [] h = refl
newest_width test says (c ∷ older) h = chosen_width (test c) (says c older) (newest test says none older) (h c older) (newest_width test says older h)

carried_width : (c : List ℕ) (older : List (List ℕ)) → width_of (some (accepted_at (list_now older) (offer_in c))) ≡ 23
unfolding width_of
carried_width c older = length_offer c

made_width : (c : List ℕ) (older : List (List ℕ)) → width_of (variation_made (list_now older) (offer_in c)) ≡ 23
unfolding variation_made width_of
made_width c older = chosen_width (all_blank (pairs (offer_in c))) none (some (accepted_at (list_now older) (offer_in c))) refl (length_offer c)

found_width : (now : ℕ) (v s : Option Held) → width_of v ≡ 23 → width_of s ≡ 23 → length (found_words now (first_of v s)) ≡ 24
unfolding first_of found_words shown_at width_of
found_width now (some h) s hv hs = ap suc hv
found_width now none (some h) hv hs = ap suc hs
found_width now none none hv hs = refl

cond_width : (t : Bool) (x y : Answer) → length x.words ≡ 24 → length y.words ≡ 24 → length (cond t x y).words ≡ 24
cond_width true x y hx hy = hx
cond_width false x y hx hy = hy

plain_width : (n : ℕ) → length (plain n).words ≡ 24
unfolding plain
plain_width n = refl

module _ (F S : ℕ) (limits : List ℤ) (l : List (List ℕ)) where
  look_up_width : (f s p : ℕ) → length (look_up_reply (list_view F S limits l) f s p).words ≡ 24
  unfolding look_up_reply found in_force list_view list_standing list_variation
  look_up_width f s p = found_width _ _ _ (newest_width _ _ l made_width) (newest_width _ _ l carried_width)

  total_width : (s p : ℕ) → length (total_reply (list_view F S limits l) s p).words ≡ 24
  unfolding total_reply totalled
  total_width s p = refl

  reply_width : (b : List ℕ) → length (reply (list_view F S limits l) b).words ≡ 24
  unfolding reply
  reply_width b =
      cond_width (eqb (call_of b) 8) _ _ (look_up_width (facility_of b) (service_of b) (to_nat (period_word b)))
      (cond_width (eqb (call_of b) 9) _ _ (total_width (service_of b) (to_nat (period_word b))) (plain_width 0))

  answer_width : (b : List ℕ) → length (list_answer F S limits l b).words ≡ 24
  unfolding answer
  answer_width b = cond_width (eqb (number (List (List ℕ)) (list_view F S limits) list_accept l b) 0) _ _ (reply_width b) (plain_width _)

pub twenty_six_each : TwentySixEach
unfolding TwentySixEach numbers_of
twenty_six_each F S limits l b = let h = answer_width F S limits l b in simp length-append (omega arith)
