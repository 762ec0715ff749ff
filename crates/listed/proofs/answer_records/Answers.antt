use Rattle.std.proofs.Common.{◌≡◌, ◌∙◌, ◌+◌, ◌*◌, ◌-◌, [], ℤ, List, length, take, get_or, ap, ap₂, sym, arith, rules}
use borrow.Rule.Slice.PartMut.{put_mid}
use Rattle.book_rules.specs.Book.{book_answer, book_after, book_answers, book_run}
use Rattle.opening.proofs.LentParts.{lent_next}
use Rattle.listed.specs.ListAnswered.{numbers_of, flat}
use Rattle.listed.proofs.OneMoreRecord.{words_more, numbers_more, length_before}
use Rattle.listed.proofs.answer_records.Goals as goal

pub loop-i-init : goal.loop-i-init
unfolding flat book_answers book_run
loop-i-init c = search rules

pub loop-i-preserved : goal.loop-i-preserved
loop-i-preserved c =
    let l = c.loop-i in
    let d = c.args.answers.now in
    let w = c.args.words.now in
    let rs = c.args.records.now in
    let last = c.copy_from_slice.new.self in
    let front = flat (book_answers w (take l.i rs)) in
    let next = numbers_of (book_answer (book_run w (take l.i rs)) (get_or rs l.i [])) in
    let from : 26 * (l.i + 1) ≡ 26 * l.i + 26 = omega arith in
    let written : last ≡ next =
    c.copy_from_slice.ensures.after ∙ c.numbers.ensures ∙ ap numbers_of c.call.ensures.0 ∙ ap (λ (v : List ℤ). numbers_of (book_answer v (get_or rs l.i []))) l.invariant.2 in
    let before = length_before front d l.answers (26 * l.i) l.invariant.1 l.invariant.0 (omega arith) in
    let long : length last ≡ 26 = search rules in (
      search rules,
      ap₂ (λ (x y : List ℤ). put_mid (26 * l.i) (26 * l.i + 26 - 26 * l.i) x y) l.invariant.1 written
          ∙ lent_next front d next (26 * l.i) (26 * l.i + 26) before (omega (arith, ap length written))
          ∙ rw (numbers_more w rs l.i c.loop-i-test.true, from),
      c.call.ensures.1 ∙ ap (λ (v : List ℤ). book_after v (get_or rs l.i [])) l.invariant.2 ∙ sym (words_more w rs l.i c.loop-i-test.true),
    )
