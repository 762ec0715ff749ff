use Rattle.std.proofs.Common.{rules, tests, arith, ◌∙◌, ◌≡◌, sym}
use borrow.Author.Tests.{le-leb}
use Rattle.std.proofs.lemmas.Iterator.{YieldsList-from_slice}
use Rattle.std.proofs.lemmas.Iterator.Search.{all_from_yields_List}
use Rattle.offer_rules.specs.Offer.{pairs}
use Rattle.units.specs.Typed.{typed}
use Rattle.offers.specs.PairTests.{is_empty, used_pairs}
use Rattle.offers.proofs.Walks.{tested_empty}
use Rattle.offers.proofs.filed.Filed.are_empty_from.Goals as goal

pub returns-then-used-from : goal.returns-then-used-from
returns-then-used-from c =
    let used : c.used_pairs-used.result ≡ used_pairs c.args.self.now.service.number = c.used_pairs-used.ensures.0 in
    let same : used_pairs c.args.self.now.service.number ≡ c.args.from = rw (← used) (omega (arith, rw (← used) at c.requires)) in
    le-leb c.used_pairs-used.result c.args.from (search rules) ∙ sym (rw same at c.pairs-pairs.ensures.unused)

pub returns-else-used-from : goal.returns-else-used-from
returns-else-used-from c =
    let p = c.pairs-pairs.ensures in
    let s = c.args.self.now in
    let used : c.used_pairs-used.result ≡ used_pairs s.service.number = c.used_pairs-used.ensures.0 in
    all_from_yields_List (λ words. is_empty (typed words).price (typed words).quantity) _ _ c.all.result c.all.ensures.ran (YieldsList-from_slice _ c.iter.ensures.rest) (λ x b q k. search (rules, tests))
    ∙ tested_empty c.pairs-pairs.result.now (pairs s.offer.now) p.each.0 c.args.from c.used_pairs-used.result (rw used c.requires) (rw used p.unused)
