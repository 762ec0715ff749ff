-- What a call answers and leaves, from what it is refused for or from the words it writes: the equations of every call's contract.
use Rattle.std.proofs.Common.{◌≡◌, refl, sym, ◌∙◌, List, ℕ, zero, suc, ◌≤◌, ℤ, Result, arith}
use Rattle.std.specs.Result.{IsErrAnd}
use Rattle.std.proofs.lemmas.Result.{err_from_is_err_and}
use Rattle.offer_rules.specs.Numbers.{◌then◌}
use Rattle.layout.specs.Refusal.{number, drawn}
use Rattle.layout.specs.declared.refusal.Refusal.{Refusal}
use Rattle.layout.proofs.Chains.{passed_first, refused_first, is_drawn}
use Rattle.book_rules.specs.Record.{call_of}
use Rattle.book_rules.specs.Force.{Answer, plain}
use Rattle.book_rules.specs.Refusals.{judge, reply}
use Rattle.book_rules.specs.Book.{book_view, book_accept, book_answer, book_after}
use Rattle.book_rules.proofs.OneCall.{refused_call, accepted_call, accepted_filing, accept_reader}
use Rattle.judging.specs.Tested.{Tested}

-- The answer a, the words v afterwards.
abbrev pub Answers : List ℤ → List ℕ → Answer → List ℤ → Type 0
Answers w b a v = (a ≡ book_answer w b) × (v ≡ book_after w b)

-- A call whose number is that of a first test, or else of those after it.
module _ {j : ℕ} (n m : ℕ) (e : j ≡ (n then m)) where
  pub by_first : (r : Refusal) → number r ≡ n → number r ≡ j
  by_first r h = sym (refused_first r n m h) ∙ sym e

  pub by_next : {k : ℕ} → 0 ≡ n → k ≡ m → k ≡ j
  by_next h q = q ∙ sym (passed_first n m (sym h)) ∙ sym e

module _ (w : List ℤ) (b : List ℕ) (t : Tested w b) where
  -- Refused: its number is answered alone, and nothing is written.
  pub refused : (r : Refusal) → number r ≡ judge (book_view w) b → Answers w b (plain (number r)) w
  refused r e = let x = refused_call w b t.usable.is_usable t.is_taken (number r) (sym e) (is_drawn r) in (sym x.0, sym x.1)

  -- the same where a `?` leaves the call
  pub refused_by : (r : Result (Unit {0}) Refusal) (e : Refusal) → IsErrAnd r (λ d. d ≡ e) → number e ≡ judge (book_view w) b → Answers w b (plain (drawn r)) w
  refused_by r e h n = let p = err_from_is_err_and r h in rw (p.1, p.2) (refused e n)

  -- A call that files: 0 is answered alone.
  pub filed : (k : ℕ) → call_of b ≡ k → k ≤ 7 → 0 ≡ judge (book_view w) b → (v : List ℤ) → v ≡ book_accept w b → Answers w b (plain 0) v
  filed k c h e v q = let x = accepted_filing w b t.usable.is_usable t.is_taken k c h (sym e) in (sym x.0, q ∙ sym x.1)

  -- A call that reads.
  pub read : (a : Answer) → 0 ≡ judge (book_view w) b → a ≡ reply (book_view w) b → a ≡ book_answer w b
  read a e p = let x = accepted_call w b t.usable.is_usable t.is_taken (sym e) in p ∙ sym x.0

-- A call that reads leaves the words, whatever it draws.
pub unwritten : (w : List ℤ) (b : List ℕ) → Tested w b → (k : ℕ) → call_of b ≡ k → 8 ≤ k → w ≡ book_after w b
unwritten w b t k c h = go (judge (book_view w) b) refl
  where
    go : (n : ℕ) → judge (book_view w) b ≡ n → w ≡ book_after w b
    go zero e = sym ((accepted_call w b t.usable.is_usable t.is_taken e).1 ∙ accept_reader w b k c h)
    go (suc n) e = sym (refused_call w b t.usable.is_usable t.is_taken (suc n) e (λ z. omega arith)).1
