-- Which of the nine calls a record is, and what its fields then are held to.
use mathlib.Core.Path.{◌≡◌, refl, ap}
use mathlib.Core.Bool.{Bool, true, false, not, ◌&&◌}
use mathlib.Core.List.{List}
use Prim.Native.Nat.{ℕ, zero, suc, ◌+◌, ◌≤◌, ◌<◌}
use native.Mathlib.Omega.{arith}
use lib.Dec.{leb, eqb}
use lib.ListN.{length}
use borrow.Author.Tests.{eqb-true, leb-false, not-false}
use Rattle.offer_rules.specs.Numbers.{to_nat, between, ◌then◌}
use Rattle.offer_rules.proofs.Drawn.{and_left, and_right, or_left, or_right, then_zero, draw_zero}
use Rattle.offer_rules.proofs.Ranges.{between_low, between_high}
use Rattle.book_rules.specs.Record.{byte, call_of, facility_of, service_of, period_word, reason_of, word_a, word_b, capability_in, offer_in, used, uses, is_record, outside, has_stray, record_number, words_at}
use Rattle.book_rules.specs.Force.{View, plain}
use Rattle.book_rules.specs.Refusals.{judge, reply, clock_number, capability_number, standing_number, variation_number, facility_number, outage_number, notice_number, withdrawal_number, look_up_number, period_number, look_up_reply, total_reply}

pub data Which (b : List ℕ) : Type 0 where
  is_clock : call_of b ≡ 1 → Which b
  is_capability : call_of b ≡ 2 → Which b
  is_standing : call_of b ≡ 3 → Which b
  is_variation : call_of b ≡ 4 → Which b
  is_outage : call_of b ≡ 5 → Which b
  is_notice : call_of b ≡ 6 → Which b
  is_withdrawal : call_of b ≡ 7 → Which b
  is_look_up : call_of b ≡ 8 → Which b
  is_total : call_of b ≡ 9 → Which b

which_of : (b : List ℕ) (k : ℕ) → 1 ≤ k → k ≤ 9 → call_of b ≡ k → Which b
which_of b zero h g e = absurd (omega arith)
which_of b (suc zero) h g e = is_clock e
which_of b (suc (suc zero)) h g e = is_capability e
which_of b (suc (suc (suc zero))) h g e = is_standing e
which_of b (suc (suc (suc (suc zero)))) h g e = is_variation e
which_of b (suc (suc (suc (suc (suc zero))))) h g e = is_outage e
which_of b (suc (suc (suc (suc (suc (suc zero)))))) h g e = is_notice e
which_of b (suc (suc (suc (suc (suc (suc (suc zero))))))) h g e = is_withdrawal e
which_of b (suc (suc (suc (suc (suc (suc (suc (suc zero)))))))) h g e = is_look_up e
which_of b (suc (suc (suc (suc (suc (suc (suc (suc (suc zero))))))))) h g e = is_total e
which_of b (suc (suc (suc (suc (suc (suc (suc (suc (suc (suc k)))))))))) h g e = absurd (omega arith)

-- What a record that passes 2, 3 and 4 names lies in the book, and it carries nothing else.
pub record Named (F S : ℕ) (b : List ℕ) : Type 0 where
  pub long : length b ≡ 112
  pub which : Which b
  pub none_stray : has_stray b ≡ false
  pub facility_in : uses b 6 ≡ true → facility_of b < F
  pub service_in : uses b 7 ≡ true → service_of b < S

passed : (t u : Bool) → (t && u) ≡ false → t ≡ true → u ≡ false
passed true u e h = e
passed false u e h = absurd (let z : ◌≡◌ {A = ℕ} 0 1 = cc h in omega arith)

-- What 2 leaves.
of_a_record : (b : List ℕ) → is_record b ≡ true → (length b ≡ 112) × (between 1 9 (call_of b) ≡ true)
unfolding is_record
of_a_record b e =
    let long = eqb (length b) 112 in
    let mark = (eqb (byte b 0) 83 && eqb (byte b 1) 79) && eqb (byte b 2) 66 in
    let version = eqb (byte b 3) 0 && eqb (byte b 4) 1 in
    let call = between 1 9 (call_of b) in
    (eqb-true (length b) 112 (and_left long mark (and_left (long && mark) (version && call) e)), and_right version call (and_right (long && mark) (version && call) e))

pub named : (F S : ℕ) (b : List ℕ) → record_number b F S ≡ 0 → Named F S b
unfolding record_number outside
named F S b e =
    let z = then_zero _ _ e in
    let y = then_zero _ _ z.1 in
    let r = of_a_record b (not-false (is_record b) (draw_zero (not (is_record b)) 2 (omega arith) z.0)) in
    let o = draw_zero (outside b F S) 3 (omega arith) y.0 in
    let f = uses b 6 && leb F (facility_of b) in
    let s = uses b 7 && leb S (service_of b) in
    record {
      long = r.0;
      none_stray = draw_zero (has_stray b) 4 (omega arith) y.1;
      which = which_of b (call_of b) (between_low 1 9 (call_of b) r.1) (between_high 1 9 (call_of b) r.1) refl;
      facility_in = λ u. leb-false F (facility_of b) (passed (uses b 6) (leb F (facility_of b)) (or_left f s o) u);
      service_in = λ u. leb-false S (service_of b) (passed (uses b 7) (leb S (service_of b)) (or_right f s o) u);
    }

-- ---- the number and the answer of each call

module _ (vw : View) (b : List ℕ) where
  pub judge_clock : call_of b ≡ 1 → judge vw b ≡ clock_number vw.now (word_a b)
  unfolding judge
  judge_clock e = rw e

  pub judge_capability : call_of b ≡ 2 → judge vw b ≡ capability_number (vw.capability (facility_of b)) (capability_in b)
  unfolding judge
  judge_capability e = rw e

  pub judge_standing : call_of b ≡ 3 → judge vw b ≡ standing_number vw (facility_of b) (service_of b) (period_word b) (reason_of b) (offer_in b)
  unfolding judge
  judge_standing e = rw e

  pub judge_variation : call_of b ≡ 4 → judge vw b ≡ variation_number vw (facility_of b) (service_of b) (period_word b) (reason_of b) (offer_in b)
  unfolding judge
  judge_variation e = rw e

  pub judge_outage : call_of b ≡ 5
      → judge vw b ≡ (facility_number (vw.capability (facility_of b)) then outage_number vw.now (vw.capability (facility_of b)) (word_a b) (word_b b))
  unfolding judge
  judge_outage e = rw e

  pub judge_notice : call_of b ≡ 6 → judge vw b ≡ notice_number (reason_of b) (word_a b) (word_b b)
  unfolding judge
  judge_notice e = rw e

  pub judge_withdrawal : call_of b ≡ 7 → judge vw b ≡ withdrawal_number (reason_of b)
  unfolding judge
  judge_withdrawal e = rw e

  pub judge_look_up : call_of b ≡ 8 → judge vw b ≡ look_up_number vw (facility_of b) (service_of b) (period_word b)
  unfolding judge
  judge_look_up e = rw e

  pub judge_total : call_of b ≡ 9 → judge vw b ≡ period_number vw.now (period_word b)
  unfolding judge
  judge_total e = rw e

  pub reply_look_up : call_of b ≡ 8 → reply vw b ≡ look_up_reply vw (facility_of b) (service_of b) (to_nat (period_word b))
  unfolding reply
  reply_look_up e = rw e

  pub reply_total : call_of b ≡ 9 → reply vw b ≡ total_reply vw (service_of b) (to_nat (period_word b))
  unfolding reply
  reply_total e = rw e

  -- Calls 1 to 7 answer their number alone.
  pub reply_plain : (k : ℕ) → call_of b ≡ k → eqb k 8 ≡ false → eqb k 9 ≡ false → reply vw b ≡ plain 0
  unfolding reply
  reply_plain k e h g = rw (e, h, g)

-- ---- what each call uses

module _ (b : List ℕ) where
  pub capability_uses : call_of b ≡ 2 → uses b 6 ≡ true
  unfolding used
  capability_uses e = rw e

  pub standing_uses : call_of b ≡ 3 → (uses b 6 ≡ true) × (uses b 7 ≡ true)
  unfolding used
  standing_uses e = rw e (refl, refl)

  pub variation_uses : call_of b ≡ 4 → (uses b 6 ≡ true) × (uses b 7 ≡ true)
  unfolding used
  variation_uses e = rw e (refl, refl)

  pub outage_uses : call_of b ≡ 5 → uses b 6 ≡ true
  unfolding used
  outage_uses e = rw e

  pub look_up_uses : call_of b ≡ 8 → (uses b 6 ≡ true) × (uses b 7 ≡ true)
  unfolding used
  look_up_uses e = rw e (refl, refl)

  pub total_uses : call_of b ≡ 9 → uses b 7 ≡ true
  unfolding used
  total_uses e = rw e

-- ---- sizes of what a record carries

pub length_words : (b : List ℕ) (i n : ℕ) → length (words_at b i n) ≡ n
unfolding words_at
length_words b i zero = refl
length_words b i (suc n) = ap suc (length_words b (i + 4) n)

pub length_capability : (b : List ℕ) → length (capability_in b) ≡ 17
unfolding capability_in
length_capability b = length_words b 32 17

pub length_offer : (b : List ℕ) → length (offer_in b) ≡ 23
unfolding offer_in
length_offer b = ap (λ (n : ℕ). suc (suc (suc n))) (length_words b 32 20)
