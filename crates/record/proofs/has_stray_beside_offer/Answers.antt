-- The gaps beside an offer, for service 0, 1 to 3, and 4 or more.
-- Services 1 to 3 use the bytes of service 1, and those from 4 on the bytes of service 4.
use Rattle.std.proofs.Common.{◌≡◌, refl, sym, ap, ◌∙◌, Bool, ◌||◌, List, [], ◌∷◌, ℕ, arith, length, drop}
use borrow.Author.Tests.{ne_eqb, lt-ltb, le-ltb}
use Rattle.book_rules.specs.Record.{any_stray, used_by_offer, used}
use Rattle.record.proofs.StrayBytes.{any_set, Gap, gap, as_lent, set_in_gaps, set_or, gap_bytes, unused_bytes, stray_in_gaps}
use Rattle.record.proofs.has_stray_beside_offer.Goals as goal

energy_stray : (t : ℕ) (b : List ℕ) (p q : Gap) → t ≡ 0 → length b ≡ 112 → gap_bytes b (p ∷ (q ∷ [])) ≡ unused_bytes (used 3 0) b 6 106
    → (any_set b p.start p.count || any_set b q.start q.count) ≡ any_stray (used 3 t) 6 (drop 6 b)
unfolding set_in_gaps
energy_stray t b p q e n same = stray_in_gaps (used 3 t) (used 3 0) b (p ∷ (q ∷ [])) n (λ i. rw e) same

-- where a byte of the first gap is set the second is not read
pub returns-then-any_set : goal.returns-then-any_set
unfolding used set_or gap_bytes unused_bytes used_by_offer
returns-then-any_set c =
    let b = c.args.bytes.now in
    c.if-any_set.true
    ∙ ap (λ (x : Bool). x || any_set b 24 8) (sym c.if-any_set.true ∙ simp as_lent at c.any_set.ensures)
    ∙ energy_stray c.args.service b (gap _ _) (gap 24 8) (omega arith) c.told-bytes refl

pub returns-else-any_set : goal.returns-else-any_set
unfolding used set_or gap_bytes unused_bytes used_by_offer
returns-else-any_set c =
    let b = c.args.bytes.now in
    simp as_lent at c.any_set-else-any_set.ensures
    ∙ ap (λ (x : Bool). x || any_set b 24 8) (sym c.if-any_set.false ∙ simp as_lent at c.any_set.ensures)
    ∙ energy_stray c.args.service b (gap _ _) (gap 24 8) (omega arith) c.told-bytes refl

pub returns-then-service-lt-REGULATION : goal.returns-then-service-lt-REGULATION
unfolding used_by_offer used set_in_gaps set_or gap_bytes unused_bytes
returns-then-service-lt-REGULATION c =
    let t = c.args.service in
    rw (
      c.any_set-then-service-lt-REGULATION.ensures,
      c.any_set-then-service-lt-REGULATION-2.ensures,
      c.any_set-then-service-lt-REGULATION-3.ensures,
    )
    (simp as_lent (stray_in_gaps (used 3 t) (used 3 1) c.args.bytes.now (gap _ _ ∷ (gap _ _ ∷ (gap _ _ ∷ []))) c.told-bytes (λ i. rw (ne_eqb t 0 (λ e. omega arith), lt-ltb t 4 (omega arith))) refl))

pub returns-else-service-lt-REGULATION : goal.returns-else-service-lt-REGULATION
unfolding used_by_offer used set_in_gaps set_or gap_bytes unused_bytes
returns-else-service-lt-REGULATION c =
    let t = c.args.service in
    rw (c.any_set-else-service-lt-REGULATION.ensures, c.any_set-else-service-lt-REGULATION-2.ensures)
    (simp as_lent (stray_in_gaps (used 3 t) (used 3 4) c.args.bytes.now (gap _ _ ∷ (gap _ _ ∷ [])) c.told-bytes (λ i. rw (ne_eqb t 0 (λ e. omega arith), le-ltb t 4 (omega arith))) refl))
