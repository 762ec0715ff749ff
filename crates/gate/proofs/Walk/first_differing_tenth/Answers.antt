use Rattle.std.proofs.Common.{◌≡◌, ◌<◌, ◌+◌, ◌-◌, false, length, ◌∙◌, rules, arith, take, drop, length-drop}
use Rattle.gate.proofs.Steps.{left_old, left_new, first_differ, past_old, past_new, past_both}
use Rattle.std.proofs.lemmas.Grind.{common_steps}
use Rattle.gate.proofs.Walk.first_differing_tenth.Goals as goal
use Rattle.gate.proofs.Walk.first_differing_tenth.Goals.{then-a-b, else-a-b+then-a-b-2, else-a-b+else-a-b-2}

pub loop-old-preserved : goal.loop-old-preserved
loop-old-preserved c =
    let s = c.loop-old in
    let f : first_differ s.old.now s.new.now s.old_used s.new_used s.passed ≡ false = cc in
    let h : 0 < length s.old.now = search rules in
    let k : 0 < length s.new.now = search rules in
    let a : c.saturating_sub-a.result ≡ left_old s.old.now s.new.now s.old_used s.new_used s.passed = cc in
    let b : c.saturating_sub-b.result ≡ left_new s.old.now s.new.now s.old_used s.new_used s.passed = cc in
    let o : take (length s.old.now - 1) (drop 1 s.old.now) ≡ drop 1 s.old.now = grind (arith, common_steps) in
    let n : take (length s.new.now - 1) (drop 1 s.new.now) ≡ drop 1 s.new.now = grind (arith, common_steps) in
    let os = length-drop 1 s.old.now in
    let ns = length-drop 1 s.new.now in
    elim c.if-a-b.branch [
      | then-a-b w ↦
          let e = past_both s.old.now s.new.now s.old_used s.new_used s.passed h k f (omega arith) in
          let m : c.min-passed.result ≡ left_old s.old.now s.new.now s.old_used s.new_used s.passed = omega arith in
          rw (w.old-is, w.new-is, w.old_used-is, w.new_used-is, o, n, m) (omega arith, omega arith, omega arith, e ∙ s.invariant.3)
      | else-a-b+then-a-b-2 w ↦
          let e = past_old s.old.now s.new.now s.old_used s.new_used s.passed h k f (omega arith) in
          let m : c.min-passed.result ≡ left_old s.old.now s.new.now s.old_used s.new_used s.passed = omega arith in
          let u : c.if-a-b.new_used ≡ s.new_used + left_old s.old.now s.new.now s.old_used s.new_used s.passed = omega arith in
          rw (w.old-is, w.new-is, w.old_used-is, u, o, m) (omega arith, omega arith, omega arith, e ∙ s.invariant.3)
      | else-a-b+else-a-b-2 w ↦
          let e = past_new s.old.now s.new.now s.old_used s.new_used s.passed h k f (omega arith) in
          let m : c.min-passed.result ≡ left_new s.old.now s.new.now s.old_used s.new_used s.passed = omega arith in
          let u : c.if-a-b.old_used ≡ s.old_used + left_new s.old.now s.new.now s.old_used s.new_used s.passed = omega arith in
          rw (w.old-is, w.new-is, w.new_used-is, u, n, m) (omega arith, omega arith, omega arith, e ∙ s.invariant.3)
    ]
