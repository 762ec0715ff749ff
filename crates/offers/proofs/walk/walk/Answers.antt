use Rattle.std.proofs.Common.{arith, rules, sym, ap, ◌≡◌, ◌∙◌, ◌+◌, drop}
use mir.Syntax.{w32}
use mir.Val.{SFits}
use lib.Signed.{nat_abs-le}
use Rattle.offers.specs.PairTests.{with_filled, found_from}
use Rattle.units.specs.Typed.{pairs_of}
use Rattle.offers.proofs.Walks.{none_left, ends_here, stops_here, goes_on_here, total_grows}
use Rattle.offers.proofs.walk.walk.Goals as goal

pub returns-then-is_out_of_range-clause-found : goal.returns-then-is_out_of_range-clause-found
returns-then-is_out_of_range-clause-found c =
    let a = c.args in
    sym (sym c.loop-words.invariant.2
    ∙ ends_here a.limits.lowest a.limits.highest c.loop-words.f a.pairs.now c.loop-words.words-index c.from-pair.result (omega arith) c.from-pair.ensures (sym c.is_out_of_range.ensures ∙ c.if-is_out_of_range.true))

pub returns-then-is_blank-clause-found : goal.returns-then-is_blank-clause-found
returns-then-is_blank-clause-found c =
    let a = c.args in
    sym (sym c.loop-words.invariant.2
    ∙ stops_here a.limits.lowest a.limits.highest c.loop-words.f a.pairs.now c.loop-words.words-index c.from-pair.result (omega arith) c.from-pair.ensures (sym c.is_out_of_range.ensures ∙ c.if-is_out_of_range.false) (sym c.is_blank.ensures ∙ c.if-is_blank.true))

pub loop-words-preserved : goal.loop-words-preserved
unfolding with_filled
loop-words-preserved c =
    let a = c.args in
    let x = c.from-pair.result in
    let r : c.with_filled-f.result ≡ with_filled c.loop-words.f x.price x.quantity = c.with_filled-f.ensures in
    let q : SFits w32 x.quantity.0 = search rules in (
      rw r (omega arith),
      rw r (omega (arith, total_grows c.loop-words.f x.price x.quantity, nat_abs-le x.quantity.0 q.sfits)),
      ap (λ g. found_from a.limits.lowest a.limits.highest g (pairs_of (drop (c.loop-words.words-index + 1) a.pairs.now))) r
          ∙ sym (goes_on_here a.limits.lowest a.limits.highest c.loop-words.f a.pairs.now c.loop-words.words-index x (omega arith) c.from-pair.ensures (sym c.is_out_of_range.ensures ∙ c.if-is_out_of_range.false) (sym c.is_blank.ensures ∙ c.if-is_blank.false))
          ∙ c.loop-words.invariant.2,
    )

pub returns-clause-found : goal.returns-clause-found
returns-clause-found c =
    let a = c.args in
    sym (sym c.loop-words.invariant.2
    ∙ none_left a.limits.lowest a.limits.highest c.loop-words.f a.pairs.now c.loop-words.words-index (omega arith))
