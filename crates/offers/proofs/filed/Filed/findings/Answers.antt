use Rattle.std.proofs.Common.{rules, arith, ap, sym, ◌≡◌, ◌∙◌, ◌≤◌, drop, length-drop, length-take-le, Err}
use Rattle.std.proofs.lemmas.Result.{IfOk-weaker}
use lib.Seq.{take_all}
use Rattle.offer_rules.specs.Offer.{pairs}
use Rattle.offers.specs.PairTests.{found_from}
use Rattle.units.specs.Typed.{pairs_of}
use Rattle.offers.proofs.Walks.{five_end, five_stop, five_pass, five_suffice, used_counted}
use Rattle.offers.proofs.filed.Filed.findings.Goals as goal
use Rattle.offers.proofs.filed.Filed.findings.Goals.{then-five-lt-FEWER_PAIRS-via-then-five-lt-FEWER_PAIRS, then-five-lt-FEWER_PAIRS-via-else-five-lt-FEWER_PAIRS+then-five_suffice}

pub returns-in_err-five-clause-found : goal.returns-in_err-five-clause-found
returns-in_err-five-clause-found c =
    let a = c.args in
    let p = c.pairs-pairs in
    let e : c.from_residual.result ≡ Err c.in_err-five.field-0.0 = search rules in
    e
    ∙ sym (five_end a.self.now.limits.lowest a.self.now.limits.highest p.result.now (pairs a.self.now.offer.now) p.ensures.each.0 p.ensures.each.1 c.in_err-five.field-0.0 (sym c.walk.ensures.found ∙ c.in_err-five.was))

pub returns-then-five-lt-FEWER_PAIRS-clause-found : goal.returns-then-five-lt-FEWER_PAIRS-clause-found
returns-then-five-lt-FEWER_PAIRS-clause-found c =
    let a = c.args in
    let p = c.pairs-pairs in
    let l = pairs a.self.now.offer.now in
    let five = c.in_ok-five.five in
    let h = sym c.walk.ensures.found ∙ c.in_ok-five.was in
    elim c.then-five-lt-FEWER_PAIRS.branch [
      | then-five-lt-FEWER_PAIRS-via-then-five-lt-FEWER_PAIRS w ↦
          sym (five_stop a.self.now.limits.lowest a.self.now.limits.highest p.result.now l p.ensures.each.0 p.ensures.each.1 five h w.if-five-lt-FEWER_PAIRS.true)
      | then-five-lt-FEWER_PAIRS-via-else-five-lt-FEWER_PAIRS+then-five_suffice w ↦
          sym (five_pass a.self.now.limits.lowest a.self.now.limits.highest p.result.now l p.ensures.each.0 p.ensures.each.1 five h w.if-five-lt-FEWER_PAIRS.false
          ∙ five_suffice a.self.now.limits.lowest a.self.now.limits.highest p.result.now l p.ensures.each.0 p.ensures.each.1 a.self.now.service.number p.ensures.unused five (sym w.five_suffice.ensures ∙ w.if-five_suffice.true))
    ]

pub returns-clause-found : goal.returns-clause-found
returns-clause-found c =
    let a = c.args in
    let p = c.pairs-pairs in
    let five = c.in_ok-five.five in
    let h = sym c.walk.ensures.found ∙ c.in_ok-five.was in
    c.walk-2.ensures.found
    ∙ ap (λ ws. found_from a.self.now.limits.lowest a.self.now.limits.highest five (pairs_of ws)) (take_all 5 (drop 5 p.result.now) (omega (arith, length-drop 5 p.result.now)))
    ∙ sym (five_pass a.self.now.limits.lowest a.self.now.limits.highest p.result.now (pairs a.self.now.offer.now) p.ensures.each.0 p.ensures.each.1 five h c.if-five-lt-FEWER_PAIRS.false)

pub returns-clause-within : goal.returns-clause-within
returns-clause-within c =
    let a = c.args in
    let p = c.pairs-pairs in
    let five = c.in_ok-five.five in
    let within = c.in_ok-five.ensures.within in
    let m : five.filled ≤ 5 = omega (arith, within.0, length-take-le 5 p.result.now) in
    let found =
    c.walk-2.ensures.found
    ∙ ap (λ ws. found_from a.self.now.limits.lowest a.self.now.limits.highest five (pairs_of ws)) (take_all 5 (drop 5 p.result.now) (omega (arith, length-drop 5 p.result.now)))
    in
    used_counted a.self.now.limits.lowest a.self.now.limits.highest p.result.now (pairs a.self.now.offer.now) p.ensures.each.0 p.ensures.each.1 a.self.now.service.number p.ensures.unused five m c.walk-2.result found (IfOk-weaker c.walk-2.result _ _ (λ f h. omega (arith, h.0, length-drop 5 p.result.now)) c.walk-2.ensures.within)
