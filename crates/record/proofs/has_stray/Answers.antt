-- Each arm's gaps are what its call doesn't use: both become the same tests, byte by byte.
-- Calls 3 and 4 use the same.
use Rattle.std.proofs.Common.{◌≡◌, refl, ◌∙◌, ℕ, List, [], ◌∷◌, arith, length}
use Rattle.book_rules.specs.Record.{byte, used, has_stray}
use Rattle.record.proofs.UnknownCalls.{unknown_uses_none}
use Rattle.record.proofs.StrayBytes.{Gap, gap, as_lent, set_in_gaps, set_or, gap_bytes, unused_bytes, stray_in_gaps}
use Rattle.record.proofs.has_stray.Goals as goal

in_gaps : (b : List ℕ) (k : ℕ) (l : List Gap) → length b ≡ 112 → byte b 5 ≡ k → gap_bytes b l ≡ unused_bytes (used k (byte b 7)) b 6 106
    → set_in_gaps b l ≡ has_stray b
unfolding has_stray
in_gaps b k l n key e = stray_in_gaps (used (byte b 5) (byte b 7)) (used k (byte b 7)) b l n (λ i. rw key) e

pub returns-in-1 : goal.returns-in-1
unfolding used set_in_gaps set_or gap_bytes unused_bytes
returns-in-1 c = rw (c.any_set.ensures, c.any_set-in-1.ensures) (simp as_lent (in_gaps c.args.bytes.now 1 (gap _ _ ∷ (gap _ _ ∷ [])) c.told-bytes c.in-1.is refl))

pub returns-in-2 : goal.returns-in-2
unfolding used set_in_gaps set_or gap_bytes unused_bytes
returns-in-2 c = rw (c.any_set-in-2.ensures, c.any_set-in-2-2.ensures) (simp as_lent (in_gaps c.args.bytes.now 2 (gap _ _ ∷ (gap _ _ ∷ [])) c.told-bytes c.in-2.is refl))

pub returns-in-3 : goal.returns-in-3
unfolding has_stray used
returns-in-3 c = c.has_stray_beside_offer.ensures ∙ rw c.in-3.is

pub returns-in-4 : goal.returns-in-4
unfolding has_stray used
returns-in-4 c = c.has_stray_beside_offer-in-4.ensures ∙ rw c.in-4.is

pub returns-in-5 : goal.returns-in-5
unfolding used set_in_gaps set_or gap_bytes unused_bytes
returns-in-5 c = rw (c.any_set-in-5.ensures, c.any_set-in-5-2.ensures) (simp as_lent (in_gaps c.args.bytes.now 5 (gap _ _ ∷ (gap _ _ ∷ [])) c.told-bytes c.in-5.is refl))

pub returns-in-6 : goal.returns-in-6
unfolding used set_in_gaps set_or gap_bytes unused_bytes
returns-in-6 c = rw (c.any_set-in-6.ensures, c.any_set-in-6-2.ensures, c.any_set-in-6-3.ensures) (simp as_lent (in_gaps c.args.bytes.now 6 (gap _ _ ∷ (gap _ _ ∷ (gap _ _ ∷ []))) c.told-bytes c.in-6.is refl))

pub returns-in-7 : goal.returns-in-7
unfolding used set_in_gaps set_or gap_bytes unused_bytes
returns-in-7 c = rw (c.any_set-in-7.ensures, c.any_set-in-7-2.ensures) (simp as_lent (in_gaps c.args.bytes.now 7 (gap _ _ ∷ (gap _ _ ∷ [])) c.told-bytes c.in-7.is refl))

pub returns-in-8 : goal.returns-in-8
unfolding used set_in_gaps set_or gap_bytes unused_bytes
returns-in-8 c = rw c.any_set-in-8.ensures (simp as_lent (in_gaps c.args.bytes.now 8 (gap _ _ ∷ []) c.told-bytes c.in-8.is refl))

pub returns-in-9 : goal.returns-in-9
unfolding used set_in_gaps set_or gap_bytes unused_bytes
returns-in-9 c = rw (c.any_set-in-9.ensures, c.any_set-in-9-2.ensures) (simp as_lent (in_gaps c.args.bytes.now 9 (gap _ _ ∷ (gap _ _ ∷ [])) c.told-bytes c.in-9.is refl))

pub returns-in-0 : goal.returns-in-0
unfolding has_stray used set_in_gaps set_or gap_bytes unused_bytes
returns-in-0 c =
    let b = c.args.bytes.now in
    rw c.any_set-in-0.ensures
    (simp as_lent (stray_in_gaps (used (byte b 5) (byte b 7)) (used 0 0) b (gap _ _ ∷ []) c.told-bytes (λ i. unknown_uses_none (byte b 5) (byte b 7) i (λ p. grind arith)) refl))
