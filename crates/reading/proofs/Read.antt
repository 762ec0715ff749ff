-- What a look-up and a total answer, of what their record names.
use Rattle.std.proofs.Common.{◌≡◌, sym, ◌∙◌, List, ℕ, ℤ}
use Rattle.offer_rules.specs.Numbers.{to_nat, word}
use Rattle.layout.specs.Refusal.{number}
use Rattle.layout.specs.declared.refusal.Refusal.{Refusal}
use Rattle.book_rules.specs.Record.{call_of, facility_of, service_of, period_word}
use Rattle.book_rules.specs.Words.{clock_place}
use Rattle.book_rules.specs.Force.{Answer, InForce, in_force, plain, found}
use Rattle.book_rules.specs.Refusals.{period_number, look_up_number, look_up_reply, total_reply}
use Rattle.book_rules.specs.Book.{book_view, book_answer}
use Rattle.book_rules.proofs.Calls.{judge_look_up, judge_total, reply_look_up, reply_total}
use Rattle.judging.specs.Tested.{Tested}
use Rattle.judging.proofs.Answering.{refused, read}

module _ (w : List ℤ) (b : List ℕ) (t : Tested w b) where
  module _ (c : call_of b ≡ 8) {v : List ℤ} {f s : ℕ} {p : ℤ} (ev : v ≡ w) (ef : f ≡ facility_of b) (es : s ≡ service_of b) (ep : p ≡ period_word b) where
    pub look_up_refused : (r : Refusal) → number r ≡ look_up_number (book_view v) f s p → plain (number r) ≡ book_answer w b
    look_up_refused r e = (refused w b t r (rw (ev, ef, es, ep) at e ∙ sym (judge_look_up (book_view w) b c))).0

    pub look_up_answered : (a : Answer) {x : InForce} {now : ℕ} → 0 ≡ look_up_number (book_view v) f s p
        → x ≡ in_force (book_view v) f s (to_nat p) → now ≡ to_nat (word v clock_place) → a ≡ found now x → a ≡ book_answer w b
    unfolding look_up_reply book_view
    look_up_answered a e ex en ea =
        read w b t a (rw (ev, ef, es, ep) at e ∙ sym (judge_look_up (book_view w) b c))
        (ea ∙ rw (en, ex, ev, ef, es, ep) (sym (reply_look_up (book_view w) b c)))

  module _ (c : call_of b ≡ 9) {p : ℤ} (ep : p ≡ period_word b) where
    pub total_refused : (r : Refusal) → number r ≡ period_number (to_nat (word w clock_place)) p → plain (number r) ≡ book_answer w b
    unfolding book_view
    total_refused r e = (refused w b t r (rw ep at e ∙ sym (judge_total (book_view w) b c))).0

    pub total_answered : (a : Answer) {v : List ℤ} {s k : ℕ} → 0 ≡ period_number (to_nat (word w clock_place)) p
        → v ≡ w → s ≡ service_of b → k ≡ to_nat p → a ≡ total_reply (book_view v) s k → a ≡ book_answer w b
    unfolding book_view
    total_answered a e ev es ek ea =
        read w b t a (rw ep at e ∙ sym (judge_total (book_view w) b c)) (ea ∙ rw (ev, es, ek, ep) (sym (reply_total (book_view w) b c)))
