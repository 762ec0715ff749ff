use Rattle.std.proofs.Common.{◌≡◌, ◌+ℤ◌, rules, arith, sym, ap, ◌∙◌}
use mir.Syntax.{w32}
use mir.Val.{SFits}
use lib.Signed.{nat_abs-le}
use Rattle.offer_rules.specs.Offer.{sum_of}
use Rattle.units.proofs.Adding.{abs_add, mag_abs}
use Rattle.units.proofs.Counts.{long_back}
use Rattle.offers.proofs.Pairing.{sum_moves, sum_whole}
use Rattle.offers.proofs.pairs.sum_of.Goals as goal

pub loop-words-preserved : goal.loop-words-preserved
loop-words-preserved c =
    let total = c.loop-words.total in
    let x = c.from.result in
    let q : SFits w32 x.quantity.0 = search rules in
    let e : c.add-total.result.0 ≡ total.0 +ℤ x.quantity.0 = c.add-total.ensures in (
      rw e (omega (arith, abs_add total.0 x.quantity.0, nat_abs-le x.quantity.0 q.sfits)),
      sum_moves total.0 c.add-total.result.0 c.ten_pairs-words-items.result.now c.loop-words.words-index x (omega arith) c.from.ensures e
          ∙ c.loop-words.invariant.1,
    )

pub returns : goal.returns
returns c =
    let total = c.loop-words.total in
    let ws = c.ten_pairs-words-items in
    rw (long_back total.0 (omega (arith, mag_abs total.0)))
    (sym (sum_whole total.0 ws.result.now c.loop-words.words-index (omega arith)) ∙ c.loop-words.invariant.1 ∙ ap sum_of ws.ensures.0, omega arith)
