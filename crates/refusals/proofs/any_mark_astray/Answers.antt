-- Mark by mark, against the kind's row.
use Rattle.std.proofs.Common.{◌≡◌, ◌∙◌, refl, ap, not, false, ◌&&◌, ◌||◌, Bool, List, ℕ, ℤ, FitsSigned, rules, w32}
use Rattle.std.proofs.lemmas.Iterator.{YieldsList-from_range}
use Rattle.std.proofs.lemmas.Iterator.Consumers.{fold_from_yields_List}
use Rattle.std.specs.List.{fold, range_with_len}
use Rattle.units.proofs.Counts.{handed_on}
use Rattle.offer_rules.specs.Numbers.{word}
use Rattle.offer_rules.specs.Kinds.{Range, kind_row, is_in}
use Rattle.offer_rules.specs.Offer.{kind_of}
use Rattle.kinds.specs.Meaning.{range_of}
use Rattle.book_rules.specs.Refusals.{is_registered, any_mark_astray}
use Rattle.refusals.proofs.any_mark_astray.Goals as goal

abbrev one_more : List ℤ → Range → Bool → ℕ → Bool
one_more w allowed any s = any || (is_registered w s && not (is_in allowed s))

by_row : (w : List ℤ) (allowed : Range) → allowed ≡ (kind_row (kind_of w)).marks → fold (one_more w allowed) false (range_with_len 0 5) ≡ any_mark_astray w 5
unfolding any_mark_astray
by_row w allowed e = ap (λ (r : Range). fold (one_more w r) false (range_with_len 0 5)) e

pub returns : goal.returns
returns c =
    let w = c.args.sent.now in
    let allowed = range_of c.marks-allowed.result in
    let kind : FitsSigned w32 (word w 0) = search rules in
    fold_from_yields_List _ (one_more w allowed) false _ c.fold.ensures.ran (YieldsList-from_range 0 5 5 refl refl) (λ a x b q k. search rules)
    ∙ by_row w allowed (c.marks-allowed.ensures ∙ ap (λ (z : ℤ). (kind_row z).marks) (handed_on kind.sfits refl))
