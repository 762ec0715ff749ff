-- Two states that show the same where the rules look draw the same number and give the same answer.
use mathlib.Core.Path.{◌≡◌, refl, sym, ◌∙◌, ap, ap₂}
use mathlib.Core.Logic.{inl, inr}
use mathlib.Core.Bool.{Bool, true, false}
use mathlib.Core.List.{List}
use Prim.Native.Nat.{ℕ, zero, suc, ◌+◌, ◌≤◌, ◌<◌}
use native.Mathlib.Omega.{arith}
use lib.Dec.{eqb}
use lib.IntN.{ℤ, pos, ◌+ℤ◌}
use Rattle.offer_rules.specs.Numbers.{to_nat, ◌then◌}
use Rattle.offer_rules.specs.Time.{slots, slot_of, start_of, horizon_end, slot_refused, period_refused}
use Rattle.offer_rules.specs.Offer.{offer_number, kind_of}
use Rattle.offer_rules.proofs.Drawn.{then_eq, then_zero, draw_zero}
use Rattle.offer_rules.proofs.Periods.{slot_is, period_is}
use Rattle.book_rules.specs.Record.{call_of, facility_of, service_of, period_word, reason_of, word_a, word_b, capability_in, offer_in, uses, has_stray}
use Rattle.book_rules.specs.Words.{ramps_fit}
use Rattle.book_rules.specs.Force.{View, InForce, first_of, in_force, will_stand, pairs_of, counted, offered, count_in_force, sum_in_force, found, totalled}
use Rattle.book_rules.specs.Refusals.{clock_number, capability_number, facility_number, admission_number, admitted_standing, admitted_variation, revision_number, grounds, gate_number, period_number, force_number, standing_number, variation_number, look_up_number, outage_number, judge, reply, look_up_reply, total_reply}
use Rattle.book_rules.proofs.Calls.{Which, is_clock, is_capability, is_standing, is_variation, is_outage, is_notice, is_withdrawal, is_look_up, is_total, Named, judge_clock, judge_capability, judge_standing, judge_variation, judge_outage, judge_notice, judge_withdrawal, judge_look_up, judge_total, reply_look_up, reply_total, reply_plain, capability_uses, standing_uses, variation_uses, outage_uses, look_up_uses, total_uses}
use Rattle.book_rules.proofs.Cells.{offer_fits}

-- ---- what an accepted offer or look-up has passed

-- An offer that is admitted has a slot or a period that is not refused.
pub admitted : (c : List ℤ) (s : ℕ) (refused : Bool) → admission_number c s refused ≡ 0 → refused ≡ false
unfolding admission_number
admitted c s refused e = draw_zero refused 10 (omega arith) (then_zero _ _ (then_zero _ _ e).1).1

pub period_passed : (now : ℕ) (p : ℤ) → period_number now p ≡ 0 → (p ≡ pos (to_nat p)) × (now < start_of (to_nat p)) × (to_nat p < horizon_end now)
unfolding period_number
period_passed now p e = period_is now p (draw_zero (period_refused now p) 10 (omega arith) e)

pub standing_accepted : (vw : View) (f s : ℕ) (k : ℤ) (reason : ℕ) (o : List ℤ) → standing_number vw f s k reason o ≡ 0 → (k ≡ pos (to_nat k)) × (to_nat k < slots)
unfolding standing_number
standing_accepted vw f s k reason o e = slot_is k (admitted (vw.capability f) s (slot_refused k) (then_zero _ _ e).0)

pub variation_accepted : (vw : View) (f s : ℕ) (p : ℤ) (reason : ℕ) (o : List ℤ) → variation_number vw f s p reason o ≡ 0
    → (p ≡ pos (to_nat p)) × (vw.now < start_of (to_nat p)) × (to_nat p < horizon_end vw.now)
unfolding variation_number
variation_accepted vw f s p reason o e = period_is vw.now p (admitted (vw.capability f) s (period_refused vw.now p) (then_zero _ _ e).0)

-- An offer that is accepted has ramps that a cell gives back.
module _ (vw : View) (b : List ℕ) (none_stray : has_stray b ≡ false) where
  pub admitted_standing_fits : (k : ℕ) → call_of b ≡ 3 → admitted_standing vw (facility_of b) (service_of b) k (reason_of b) (offer_in b) ≡ 0 → ramps_fit (offer_in b) ≡ true
  unfolding admitted_standing
  admitted_standing_fits k e z = offer_fits _ _ (reason_of b) b none_stray (inl e) (then_zero _ _ z).0

  pub standing_fits : call_of b ≡ 3 → judge vw b ≡ 0 → ramps_fit (offer_in b) ≡ true
  unfolding standing_number
  standing_fits e z = admitted_standing_fits (to_nat (period_word b)) e (then_zero _ _ (sym (judge_standing vw b e) ∙ z)).1

  pub variation_fits : call_of b ≡ 4 → judge vw b ≡ 0 → ramps_fit (offer_in b) ≡ true
  unfolding variation_number admitted_variation
  variation_fits e z = offer_fits _ _ (reason_of b) b none_stray (inr e) (then_zero _ _ (then_zero _ _ (sym (judge_variation vw b e) ∙ z)).1).0

-- Q says for which facilities two states show the same.
module _ (F S : ℕ) (Q : ℕ → Type 0) where
  pub record Agree (u v : View) : Type 0 where
    pub F-is : u.facilities ≡ F
    pub F-is' : v.facilities ≡ F
    pub S-is : u.services ≡ S
    pub S-is' : v.services ≡ S
    pub limits_same : u.limits ≡ v.limits
    pub now_same : u.now ≡ v.now
    pub capability_same : (f : ℕ) → Q f → f < F → u.capability f ≡ v.capability f
    pub outage_same : (f : ℕ) → Q f → f < F → u.outage f ≡ v.outage f
    pub notice_same : (k : ℕ) → 3 ≤ k → k ≤ 5 → u.notice k ≡ v.notice k
    pub standing_same : (f s k : ℕ) → Q f → f < F → s < S → k < slots → u.standing f s k ≡ v.standing f s k
    pub variation_same : (f s p : ℕ) → Q f → f < F → s < S → u.now < start_of p → u.variation f s p ≡ v.variation f s p

  module _ (u v : View) (r : Agree u v) where
    force_same : (f s p : ℕ) → Q f → f < F → s < S → u.now < start_of p → in_force u f s p ≡ in_force v f s p
    unfolding in_force
    force_same f s p q hf hs hp = ap₂ first_of (r.variation_same f s p q hf hs hp) (r.standing_same f s (slot_of p) q hf hs (omega arith))

    afterwards_same : (f s p : ℕ) (o : List ℤ) → Q f → f < F → s < S → will_stand u f s p o ≡ will_stand v f s p o
    unfolding will_stand
    afterwards_same f s p o q hf hs = rw (r.now_same, r.standing_same f s (slot_of p) q hf hs (omega arith))

    grounds_same : (f : ℕ) → Q f → f < F → grounds u f ≡ grounds v f
    unfolding grounds
    grounds_same f q hf = λ i. record {
      kind = kind_of (r.capability_same f q hf i);
      outage = r.outage_same f q hf i;
      surplus = r.notice_same 3 (omega arith) (omega arith) i;
      shortfall = r.notice_same 4 (omega arith) (omega arith) i;
      status = r.notice_same 5 (omega arith) (omega arith) i;
    }

    standing_number_same : (f s : ℕ) (k : ℤ) (reason : ℕ) (o : List ℤ) → Q f → f < F → s < S
        → standing_number u f s k reason o ≡ standing_number v f s k reason o
    unfolding standing_number admitted_standing
    standing_number_same f s k reason o q hf hs =
        let c = r.capability_same f q hf in
        then_eq _ _ _ _ (ap (λ (x : List ℤ). admission_number x s (slot_refused k)) c) λ e.
        then_eq _ _ _ _ (ap₂ (λ (l x : List ℤ). offer_number l x s reason o) r.limits_same c) λ _.
        let held = r.standing_same f s (to_nat k) q hf hs (slot_is k (admitted (u.capability f) s (slot_refused k) e)).1 in
        λ i. revision_number (r.now_same i) (grounds_same f q hf i) s (to_nat k) reason (held i) o

    variation_number_same : (f s : ℕ) (p : ℤ) (reason : ℕ) (o : List ℤ) → Q f → f < F → s < S
        → variation_number u f s p reason o ≡ variation_number v f s p reason o
    unfolding variation_number admitted_variation
    variation_number_same f s p reason o q hf hs =
        let c = r.capability_same f q hf in
        then_eq _ _ _ _ (ap₂ (λ (n : ℕ) (x : List ℤ). admission_number x s (period_refused n p)) r.now_same c) λ e.
        then_eq _ _ _ _ (ap₂ (λ (l x : List ℤ). offer_number l x s reason o) r.limits_same c) λ _.
        let old = force_same f s (to_nat p) q hf hs (period_is u.now p (admitted (u.capability f) s (period_refused u.now p) e)).1 in
        λ i. gate_number (r.now_same i) (grounds_same f q hf i) s (to_nat p) reason (pairs_of (old i)) (pairs_of (afterwards_same f s (to_nat p) o q hf hs i))

    look_up_number_same : (f s : ℕ) (p : ℤ) → Q f → f < F → s < S → look_up_number u f s p ≡ look_up_number v f s p
    unfolding look_up_number
    look_up_number_same f s p q hf hs =
        then_eq _ _ _ _ (ap facility_number (r.capability_same f q hf)) λ _.
        then_eq _ _ _ _ (ap (λ (n : ℕ). period_number n p) r.now_same) λ e.
        ap force_number (force_same f s (to_nat p) q hf hs (period_passed u.now p e).1)

    pub judge_same : (b : List ℕ) → Named F S b → (uses b 6 ≡ true → Q (facility_of b)) → judge u b ≡ judge v b
    judge_same b n q = go n.which
      where
        go : Which b → judge u b ≡ judge v b
        go (is_clock e) = judge_clock u b e ∙ ap (λ (t : ℕ). clock_number t (word_a b)) r.now_same ∙ sym (judge_clock v b e)
        go (is_capability e) =
            let y = capability_uses b e in
            judge_capability u b e
            ∙ ap (λ (c : List ℤ). capability_number c (capability_in b)) (r.capability_same (facility_of b) (q y) (n.facility_in y))
            ∙ sym (judge_capability v b e)
        go (is_standing e) =
            let y = standing_uses b e in
            judge_standing u b e
            ∙ standing_number_same (facility_of b) (service_of b) (period_word b) (reason_of b) (offer_in b) (q y.0) (n.facility_in y.0) (n.service_in y.1)
            ∙ sym (judge_standing v b e)
        go (is_variation e) =
            let y = variation_uses b e in
            judge_variation u b e
            ∙ variation_number_same (facility_of b) (service_of b) (period_word b) (reason_of b) (offer_in b) (q y.0) (n.facility_in y.0) (n.service_in y.1)
            ∙ sym (judge_variation v b e)
        go (is_outage e) =
            let y = outage_uses b e in
            judge_outage u b e
            ∙ ap₂ (λ (t : ℕ) (c : List ℤ). facility_number c then outage_number t c (word_a b) (word_b b)) r.now_same (r.capability_same (facility_of b) (q y) (n.facility_in y))
            ∙ sym (judge_outage v b e)
        go (is_notice e) = judge_notice u b e ∙ sym (judge_notice v b e)
        go (is_withdrawal e) = judge_withdrawal u b e ∙ sym (judge_withdrawal v b e)
        go (is_look_up e) =
            let y = look_up_uses b e in
            judge_look_up u b e
            ∙ look_up_number_same (facility_of b) (service_of b) (period_word b) (q y.0) (n.facility_in y.0) (n.service_in y.1)
            ∙ sym (judge_look_up v b e)
        go (is_total e) = judge_total u b e ∙ ap (λ (t : ℕ). period_number t (period_word b)) r.now_same ∙ sym (judge_total v b e)

    -- ---- answers of accepted calls

    pub look_up_same : (b : List ℕ) → Named F S b → (uses b 6 ≡ true → Q (facility_of b)) → call_of b ≡ 8 → judge u b ≡ 0 → reply u b ≡ reply v b
    unfolding look_up_reply look_up_number
    look_up_same b n q e z =
        let y = look_up_uses b e in
        let p = (then_zero _ _ (then_zero _ _ (sym (judge_look_up u b e) ∙ z)).1).0 in
        reply_look_up u b e
        ∙ ap₂ found r.now_same (force_same (facility_of b) (service_of b) (to_nat (period_word b)) (q y.0) (n.facility_in y.0) (n.service_in y.1) (period_passed u.now (period_word b) p).1)
        ∙ sym (reply_look_up v b e)

    module _ (all : (f : ℕ) → Q f) (s p : ℕ) (hs : s < S) (hp : u.now < start_of p) where
      count_same : (n : ℕ) → n ≤ F → count_in_force u s p n ≡ count_in_force v s p n
      unfolding count_in_force
      count_same zero h = refl
      count_same (suc n) h = ap₂ (λ (m : ℕ) (x : InForce). m + counted x) (count_same n (omega arith)) (force_same n s p (all n) h hs hp)

      sum_same : (n : ℕ) → n ≤ F → sum_in_force u s p n ≡ sum_in_force v s p n
      unfolding sum_in_force
      sum_same zero h = refl
      sum_same (suc n) h = ap₂ (λ (z : ℤ) (x : InForce). z +ℤ offered x) (sum_same n (omega arith)) (force_same n s p (all n) h hs hp)

      total_same : total_reply u s p ≡ total_reply v s p
      unfolding total_reply
      total_same =
          ap₂ totalled (ap (count_in_force u s p) r.F-is ∙ count_same F (omega arith) ∙ ap (count_in_force v s p) (sym r.F-is'))
          (ap (sum_in_force u s p) r.F-is ∙ sum_same F (omega arith) ∙ ap (sum_in_force v s p) (sym r.F-is'))

    pub reply_same : ((f : ℕ) → Q f) → (b : List ℕ) → Named F S b → judge u b ≡ 0 → reply u b ≡ reply v b
    reply_same all b n z = go n.which
      where
        silent : (k : ℕ) → call_of b ≡ k → eqb k 8 ≡ false → eqb k 9 ≡ false → reply u b ≡ reply v b
        silent k e h g = reply_plain u b k e h g ∙ sym (reply_plain v b k e h g)

        go : Which b → reply u b ≡ reply v b
        go (is_clock e) = silent 1 e refl refl
        go (is_capability e) = silent 2 e refl refl
        go (is_standing e) = silent 3 e refl refl
        go (is_variation e) = silent 4 e refl refl
        go (is_outage e) = silent 5 e refl refl
        go (is_notice e) = silent 6 e refl refl
        go (is_withdrawal e) = silent 7 e refl refl
        go (is_look_up e) = look_up_same b n (λ _. all (facility_of b)) e z
        go (is_total e) =
            reply_total u b e
            ∙ total_same all (service_of b) (to_nat (period_word b)) (n.service_in (total_uses b e)) (period_passed u.now (period_word b) (sym (judge_total u b e) ∙ z)).1
            ∙ sym (reply_total v b e)
