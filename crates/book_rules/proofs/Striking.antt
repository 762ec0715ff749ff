-- Refused calls, and filings for other facilities, change no look-up for a facility.
use mathlib.Core.Path.{◌≡◌, refl, sym, ◌∙◌, ap, ap₂, subst}
use mathlib.Core.Logic.{◌≢◌}
use mathlib.Core.Bool.{Bool, true, false, cond, not, ◌&&◌, true≢false}
use mathlib.Core.List.{List, [], ◌∷◌}
use Prim.Native.Nat.{ℕ, suc}
use native.Mathlib.Omega.{arith}
use native.Mathlib.Decide.{ℕ_discrete}
use lib.Dec.{eqb}
use lib.IntN.{ℤ, pos}
use lib.ListN.{length}
use borrow.Author.Tests.{eqb-true, eqb-false, not-true, not-false}
use Rattle.offer_rules.specs.Numbers.{to_nat, word, between}
use Rattle.offer_rules.proofs.Drawn.{and_left, and_right, then_eq, then_zero}
use Rattle.book_rules.specs.Record.{call_of, facility_of, service_of, period_word, reason_of, offer_in, used, uses, has_stray, sizes_ok}
use Rattle.book_rules.specs.Words.{opening_words, opening_number}
use Rattle.book_rules.specs.Force.{View, Answer, plain, found, totalled}
use Rattle.book_rules.specs.Refusals.{judge, reply, look_up_reply, total_reply, number, answer, after}
use Rattle.book_rules.specs.Book.{book_answer, book_after, book_run}
use Rattle.book_rules.specs.ListMachine.{list_now, list_view, list_answer, list_after}
use Rattle.book_rules.specs.Claims.{is_others_filing, is_look_up_for, is_accepted, struck_out, look_ups, accepted_look_ups, StrikingOut, StrikingOutInside}
use Rattle.book_rules.proofs.Calls.{Which, is_clock, is_capability, is_standing, is_variation, is_outage, is_notice, is_withdrawal, is_look_up, is_total, named, judge_standing, judge_variation}
use Rattle.book_rules.proofs.Places.{Key, clock_k, notice_k, capability_k, outage_k, standing_k, variation_k, Key-discrete}
use Rattle.book_rules.proofs.Filings.{listed, Files, FilesNothing, clock_files, capability_files, standing_files, variation_files, outage_files, notice_files, withdrawal_files, look_up_files, total_files}
use Rattle.book_rules.proofs.Rules.{Agree, judge_same, look_up_same, standing_accepted, variation_accepted, standing_fits, variation_fits}
use Rattle.book_rules.proofs.Same.{Same, offer_there_and_back, window_there_and_back}
use Rattle.book_rules.proofs.Opening.{opening_same, sizes_opened}
use Rattle.book_rules.proofs.EveryCall.{cond_eq, list_number, answer_same, after_same}

-- ---- whose a key is

-- 0: nobody's; f + 1: facility f's.
abbrev owner : Key → ℕ
owner clock_k = 0
owner (notice_k k) = 0
owner (capability_k f) = suc f
owner (outage_k f) = suc f
owner (standing_k f s k) = suc f
owner (variation_k f s p) = suc f

-- Whose key an accepted call files under.
data Filed (now : ℕ) (b : List ℕ) : Type 0 where
  for_nobody : (κ : Key) (v : List ℤ) → Files now b κ v → owner κ ≡ 0 → between 2 5 (call_of b) ≡ false → uses b 6 ≡ false → Filed now b
  for_facility : (κ : Key) (v : List ℤ) → Files now b κ v → owner κ ≡ suc (facility_of b) → between 2 5 (call_of b) ≡ true → Filed now b
  nothing_filed : FilesNothing b → between 2 5 (call_of b) ≡ false → Filed now b

filing : (k : ℕ) (b : List ℕ) → call_of b ≡ k → (t : Bool) → between 2 5 k ≡ t → between 2 5 (call_of b) ≡ t
filing k b e t h = rw e h

filed : (now : ℕ) (vw : View) (b : List ℕ) → has_stray b ≡ false → Which b → judge vw b ≡ 0 → Filed now b
unfolding used
filed now vw b t (is_clock e) z = for_nobody clock_k _ (clock_files b now e) refl (filing 1 b e false refl) (rw e)
filed now vw b t (is_capability e) z = for_facility (capability_k (facility_of b)) _ (capability_files b now e) refl (filing 2 b e true refl)
filed now vw b t (is_standing e) z =
    let k = standing_accepted vw (facility_of b) (service_of b) (period_word b) (reason_of b) (offer_in b) (sym (judge_standing vw b e) ∙ z) in
    for_facility (standing_k (facility_of b) (service_of b) (to_nat (period_word b))) _ (standing_files b (to_nat (period_word b)) k.0 now (standing_fits vw b t e z) e) refl (filing 3 b e true refl)
filed now vw b t (is_variation e) z =
    let p = variation_accepted vw (facility_of b) (service_of b) (period_word b) (reason_of b) (offer_in b) (sym (judge_variation vw b e) ∙ z) in
    for_facility (variation_k (facility_of b) (service_of b) (to_nat (period_word b))) _ (variation_files b (to_nat (period_word b)) p.0 now (variation_fits vw b t e z) e) refl (filing 4 b e true refl)
filed now vw b t (is_outage e) z = for_facility (outage_k (facility_of b)) _ (outage_files b now e) refl (filing 5 b e true refl)
filed now vw b t (is_notice e) z = for_nobody (notice_k (reason_of b)) _ (notice_files b now e) refl (filing 6 b e false refl) (rw e)
filed now vw b t (is_withdrawal e) z = for_nobody (notice_k 5) _ (withdrawal_files b now e) refl (filing 7 b e false refl) (rw e)
filed now vw b t (is_look_up e) z = nothing_filed (look_up_files b e) (filing 8 b e false refl)
filed now vw b t (is_total e) z = nothing_filed (total_files b e) (filing 9 b e false refl)

pub reply_number : (vw : View) (b : List ℕ) → (reply vw b).number ≡ 0
unfolding reply look_up_reply total_reply found totalled plain
reply_number vw b = go (eqb (call_of b) 8) (eqb (call_of b) 9)
  where
    x : Answer
    x = look_up_reply vw (facility_of b) (service_of b) (to_nat (period_word b))

    y : Answer
    y = total_reply vw (service_of b) (to_nat (period_word b))

    go : (t u : Bool) → (cond t x (cond u y (plain 0))).number ≡ 0
    go true u = refl
    go false true = refl
    go false false = refl

module _ (f : ℕ) where
  -- Nobody's, or f's.
  abbrev Mine : Key → Type 0
  Mine κ = (g : ℕ) → owner κ ≡ suc g → f ≡ g

  -- Two lists that show the same of f and of nobody.
  abbrev About : List (List ℕ) → List (List ℕ) → Type 0
  About l m = (κ : Key) → Mine κ → listed l κ ≡ listed m κ

  -- A filing for another facility is under no key of f's or of nobody's.
  foreign : (g : ℕ) (κ κ' : Key) → f ≢ g → Mine κ → owner κ' ≡ suc g → κ ≢ κ'
  foreign g κ κ' n m o q = n (m g (ap owner q ∙ o))

  -- The clock is nobody's.
  now_about : (l m : List (List ℕ)) → About l m → list_now l ≡ list_now m
  unfolding listed
  now_about l m r = ap (λ (c : List ℤ). to_nat (word c 0)) (r clock_k (λ g e. absurd (omega arith)))

  both : (b : List ℕ) (κ₀ : Key) (v : List ℤ) (l m : List (List ℕ)) → Files (list_now l) b κ₀ v → About l m → About (b ∷ l) (b ∷ m)
  both b κ₀ v l m x r κ h = go (Key-discrete ℕ_discrete κ κ₀)
    where
      go : Dec (κ ≡ κ₀) → listed (b ∷ l) κ ≡ listed (b ∷ m) κ
      go (yes q) = ap (listed (b ∷ l)) q ∙ sym (x.shows l refl) ∙ x.shows m (sym (now_about l m r)) ∙ ap (listed (b ∷ m)) (sym q)
      go (no q) = x.keeps l κ q ∙ r κ h ∙ sym (x.keeps m κ q)

  other_facility : (b : List ℕ) → is_others_filing f b ≡ true → (between 2 5 (call_of b) ≡ true) × (f ≢ facility_of b)
  unfolding is_others_filing
  other_facility b e = (
    and_left (between 2 5 (call_of b)) (not (eqb (facility_of b) f)) e,
    λ q. eqb-false (facility_of b) f (not-true (eqb (facility_of b) f) (and_right (between 2 5 (call_of b)) (not (eqb (facility_of b) f)) e)) (sym q),
  )

  own_filing : (b : List ℕ) → is_others_filing f b ≡ false → between 2 5 (call_of b) ≡ true → f ≡ facility_of b
  unfolding is_others_filing
  own_filing b e h =
      let x : not (eqb (facility_of b) f) ≡ false = sym (ap (λ (t : Bool). t && not (eqb (facility_of b) f)) h) ∙ e in
      sym (eqb-true (facility_of b) f (not-false (eqb (facility_of b) f) x))

  module _ (F S : ℕ) (limits : List ℤ) where
    abbrev view : List (List ℕ) → View
    view = list_view F S limits

    agree_about : (l m : List (List ℕ)) → About l m → Agree F S (λ (g : ℕ). f ≡ g) (view l) (view m)
    unfolding list_view listed
    agree_about l m r = record {
      F-is = refl;
      F-is' = refl;
      S-is = refl;
      S-is' = refl;
      limits_same = refl;
      now_same = now_about l m r;
      capability_same = λ g q _. r (capability_k g) (λ h e. omega arith);
      outage_same = λ g q _. window_there_and_back _ _ (r (outage_k g) (λ h e. omega arith));
      notice_same = λ k _ _. window_there_and_back _ _ (r (notice_k k) (λ g e. absurd (omega arith)));
      standing_same = λ g s k q _ _ _. offer_there_and_back _ _ (r (standing_k g s k) (λ h e. omega arith));
      variation_same = λ g s p q _ _ _. offer_there_and_back _ _ (r (variation_k g s p) (λ h e. omega arith));
    }

    numbers : (l m : List (List ℕ)) (b : List ℕ) → About l m → (uses b 6 ≡ true → f ≡ facility_of b) → list_number F S limits l b ≡ list_number F S limits m b
    unfolding number list_view
    numbers l m b r q =
        then_eq _ _ _ _ refl λ e. judge_same F S (λ (g : ℕ). f ≡ g) (view l) (view m) (agree_about l m r) b (named F S b e) q

    look_up_about : (l m : List (List ℕ)) (q : List ℕ) → About l m → is_look_up_for f q ≡ true → list_answer F S limits l q ≡ list_answer F S limits m q
    unfolding answer number list_view
    look_up_about l m q r e =
        let k = eqb-true (call_of q) 8 (and_left (eqb (call_of q) 8) (eqb (facility_of q) f) e) in
        let o = sym (eqb-true (facility_of q) f (and_right (eqb (call_of q) 8) (eqb (facility_of q) f) e)) in
        let n = numbers l m q r (λ _. o) in
        cond_eq (eqb (list_number F S limits l q) 0) (eqb (list_number F S limits m q) 0) (ap (λ (x : ℕ). eqb x 0) n)
        (λ x.
        let z = then_zero _ _ (eqb-true (list_number F S limits l q) 0 x) in
        look_up_same F S (λ (g : ℕ). f ≡ g) (view l) (view m) (agree_about l m r) q (named F S q z.0) (λ _. o) k z.1) (λ x. ap plain n)

    -- ---- one record

    number_of : (l : List (List ℕ)) (b : List ℕ) → (list_answer F S limits l b).number ≡ list_number F S limits l b
    unfolding answer plain
    number_of l b = go (list_number F S limits l b) (eqb (list_number F S limits l b) 0) refl
      where
        go : (n : ℕ) (t : Bool) → eqb n 0 ≡ t → (cond t (reply (view l) b) (plain n)).number ≡ n
        go n true e = reply_number (view l) b ∙ sym (eqb-true n 0 e)
        go n false e = refl

    accepted_list : (l : List (List ℕ)) (b : List ℕ) → eqb (list_number F S limits l b) 0 ≡ true → list_after F S limits l b ≡ b ∷ l
    unfolding after
    accepted_list l b e = rw e

    refused_list : (l : List (List ℕ)) (b : List ℕ) → eqb (list_number F S limits l b) 0 ≡ false → list_after F S limits l b ≡ l
    unfolding after
    refused_list l b e = rw e

    what_filed : (l : List (List ℕ)) (b : List ℕ) → eqb (list_number F S limits l b) 0 ≡ true → Filed (list_now l) b
    unfolding number list_view
    what_filed l b e =
        let z = then_zero _ _ (eqb-true (list_number F S limits l b) 0 e) in
        let n = named F S b z.0 in
        filed (list_now l) (view l) b n.none_stray n.which z.1

    struck_about : (l m : List (List ℕ)) (b : List ℕ) → About l m → is_others_filing f b ≡ true → Filed (list_now l) b → About (b ∷ l) m
    struck_about l m b r o (for_nobody κ v x w k u) = absurd (true≢false (sym (other_facility b o).0 ∙ k))
    struck_about l m b r o (for_facility κ₀ v x w k) = λ κ h. x.keeps l κ (foreign (facility_of b) κ κ₀ (other_facility b o).1 h w) ∙ r κ h
    struck_about l m b r o (nothing_filed x k) = absurd (true≢false (sym (other_facility b o).0 ∙ k))

    kept_about : (l m : List (List ℕ)) (b : List ℕ) → About l m → is_others_filing f b ≡ false → eqb (list_number F S limits l b) 0 ≡ true → Filed (list_now l) b
        → About (b ∷ l) (list_after F S limits m b)
    kept_about l m b r o a (for_nobody κ₀ v x w k u) =
        rw (accepted_list m b (ap (λ (n : ℕ). eqb n 0) (sym (numbers l m b r (λ t. absurd (true≢false (sym t ∙ u))))) ∙ a)) (both b κ₀ v l m x r)
    kept_about l m b r o a (for_facility κ₀ v x w k) =
        rw (accepted_list m b (ap (λ (n : ℕ). eqb n 0) (sym (numbers l m b r (λ t. own_filing b o k))) ∙ a)) (both b κ₀ v l m x r)
    kept_about l m b r o a (nothing_filed x k) = go (eqb (list_number F S limits m b) 0) refl
      where
        go : (t : Bool) → eqb (list_number F S limits m b) 0 ≡ t → About (b ∷ l) (list_after F S limits m b)
        go true e = rw (accepted_list m b e) (λ κ h. x.keeps_all l κ ∙ r κ h ∙ sym (x.keeps_all m κ))
        go false e = rw (refused_list m b e) (λ κ h. x.keeps_all l κ ∙ r κ h)

    -- ---- two books, of the run of the whole list and of the run of the shorter one

    module _ (ok : sizes_ok (pos F) (pos S) ≡ true) where
      record Beside (w w' : List ℤ) : Type 0 where
        l : List (List ℕ)
        m : List (List ℕ)
        same : Same F S limits w l
        same' : Same F S limits w' m
        about : About l m

      listed_too : (w w' : List ℤ) (b : List ℕ) (r : Beside w w') → is_accepted w b ≡ eqb (list_number F S limits r.l b) 0
      listed_too w w' b r = ap (λ (n : ℕ). eqb n 0) (ap (λ (a : Answer). a.number) (answer_same F S limits w r.l b r.same ok) ∙ number_of r.l b)

      beside_refused : (w w' : List ℤ) (b : List ℕ) → Beside w w' → is_accepted w b ≡ false → Beside (book_after w b) w'
      beside_refused w w' b r a = record {
        l = r.l;
        m = r.m;
        same = subst (Same F S limits (book_after w b)) (refused_list r.l b (sym (listed_too w w' b r) ∙ a)) (after_same F S limits w r.l b r.same ok);
        same' = r.same';
        about = r.about;
      }

      beside_struck : (w w' : List ℤ) (b : List ℕ) → Beside w w' → is_accepted w b ≡ true → is_others_filing f b ≡ true → Beside (book_after w b) w'
      beside_struck w w' b r a o =
          let e = sym (listed_too w w' b r) ∙ a in
          record {
            l = b ∷ r.l;
            m = r.m;
            same = subst (Same F S limits (book_after w b)) (accepted_list r.l b e) (after_same F S limits w r.l b r.same ok);
            same' = r.same';
            about = struck_about r.l r.m b r.about o (what_filed r.l b e);
          }

      beside_kept : (w w' : List ℤ) (b : List ℕ) → Beside w w' → is_accepted w b ≡ true → is_others_filing f b ≡ false → Beside (book_after w b) (book_after w' b)
      beside_kept w w' b r a o =
          let e = sym (listed_too w w' b r) ∙ a in
          record {
            l = b ∷ r.l;
            m = list_after F S limits r.m b;
            same = subst (Same F S limits (book_after w b)) (accepted_list r.l b e) (after_same F S limits w r.l b r.same ok);
            same' = after_same F S limits w' r.m b r.same' ok;
            about = kept_about r.l r.m b r.about o e (what_filed r.l b e);
          }

      beside_answers : (w w' : List ℤ) (q : List ℕ) → Beside w w' → is_look_up_for f q ≡ true → book_answer w' q ≡ book_answer w q
      beside_answers w w' q r e =
          answer_same F S limits w' r.m q r.same' ok ∙ sym (look_up_about r.l r.m q r.about e) ∙ sym (answer_same F S limits w r.l q r.same ok)

      runs_beside : (bs : List (List ℕ)) (w w' : List ℤ) → Beside w w' → Beside (book_run w bs) (book_run w' (struck_out f w bs))
      unfolding book_run struck_out
      runs_beside [] w w' r = r
      runs_beside (b ∷ bs) w w' r = go (is_accepted w b) refl (is_others_filing f b) refl (λ x x' y. runs_beside bs x x' y)
        where
          rest : List (List ℕ)
          rest = struck_out f (book_after w b) bs

          go : (a : Bool) → is_accepted w b ≡ a → (o : Bool) → is_others_filing f b ≡ o
              → ((x x' : List ℤ) → Beside x x' → Beside (book_run x bs) (book_run x' (struck_out f x bs)))
              → Beside (book_run (book_after w b) bs) (book_run w' (cond (a && not o) (b ∷ rest) rest))
          go true ea true eo rec = rec (book_after w b) w' (beside_struck w w' b r ea eo)
          go true ea false eo rec = rec (book_after w b) (book_after w' b) (beside_kept w w' b r ea eo)
          go false ea o eo rec = rec (book_after w b) w' (beside_refused w w' b r ea)

      no_look_up : (b : List ℕ) → is_others_filing f b ≡ true → is_look_up_for f b ≡ true → ⊥
      no_look_up b o k =
          let e = eqb-true (call_of b) 8 (and_left (eqb (call_of b) 8) (eqb (facility_of b) f) k) in
          true≢false (sym (other_facility b o).0 ∙ filing 8 b e false refl)

      looked_up_beside : (bs : List (List ℕ)) (w w' : List ℤ) → Beside w w' → look_ups f w' (struck_out f w bs) ≡ accepted_look_ups f w bs
      unfolding look_ups accepted_look_ups struck_out
      looked_up_beside [] w w' r = refl
      looked_up_beside (b ∷ bs) w w' r =
          go (is_accepted w b) refl (is_others_filing f b) refl (is_look_up_for f b) refl (λ x x' y. looked_up_beside bs x x' y)
        where
          rest : List (List ℕ)
          rest = struck_out f (book_after w b) bs

          go : (a : Bool) → is_accepted w b ≡ a → (o : Bool) → is_others_filing f b ≡ o → (k : Bool) → is_look_up_for f b ≡ k
              → ((x x' : List ℤ) → Beside x x' → look_ups f x' (struck_out f x bs) ≡ accepted_look_ups f x bs)
              → look_ups f w' (cond (a && not o) (b ∷ rest) rest)
              ≡ cond (a && k) (book_answer w b ∷ accepted_look_ups f (book_after w b) bs) (accepted_look_ups f (book_after w b) bs)
          go true ea true eo true ek rec = absurd (no_look_up b eo ek)
          go true ea true eo false ek rec = rec (book_after w b) w' (beside_struck w w' b r ea eo)
          go true ea false eo true ek rec =
              rw ek (ap₂ {C = List Answer} (λ a m. a ∷ m) (beside_answers w w' b r ek) (rec (book_after w b) (book_after w' b) (beside_kept w w' b r ea eo)))
          go true ea false eo false ek rec = rw ek (rec (book_after w b) (book_after w' b) (beside_kept w w' b r ea eo))
          go false ea o eo k ek rec = rec (book_after w b) w' (beside_refused w w' b r ea)

-- ---- the claims

-- Two openings for the same F, S and limits, and the look-ups for f in the runs from the words that they leave.
module _ (w w' : List ℤ) (F S : ℤ) (limits : List ℤ) (six : length limits ≡ 6) (z : opening_number w F S limits ≡ 0) (z' : opening_number w' F S limits ≡ 0)
    (f : ℕ) (bs : List (List ℕ)) where
  ok : sizes_ok (pos (to_nat F)) (pos (to_nat S)) ≡ true
  ok = sizes_opened w F S limits six z

  start : Beside f (to_nat F) (to_nat S) limits ok (opening_words w F S limits) (opening_words w' F S limits)
  start = record { l = []; m = []; same = opening_same w F S limits six z; same' = opening_same w' F S limits six z'; about = λ κ h. refl }

  pub look_up_beside : (q : List ℕ) → is_look_up_for f q ≡ true
      → book_answer (book_run (opening_words w' F S limits) (struck_out f (opening_words w F S limits) bs)) q ≡ book_answer (book_run (opening_words w F S limits) bs) q
  look_up_beside q e = beside_answers f (to_nat F) (to_nat S) limits ok _ _ q (runs_beside f (to_nat F) (to_nat S) limits ok bs _ _ start) e

  pub look_ups_beside : look_ups f (opening_words w' F S limits) (struck_out f (opening_words w F S limits) bs) ≡ accepted_look_ups f (opening_words w F S limits) bs
  look_ups_beside = looked_up_beside f (to_nat F) (to_nat S) limits ok bs _ _ start

pub striking_out : StrikingOut
unfolding StrikingOut
striking_out w F S limits six z f bs = look_up_beside w w F S limits six z z f bs

pub striking_out_inside : StrikingOutInside
unfolding StrikingOutInside
striking_out_inside w F S limits six z f bs = look_ups_beside w w F S limits six z z f bs
