use Rattle.std.proofs.Common.{◌≡◌, ◌∙◌, ◌+◌, ◌++◌, ◌∷◌, [], List, ℤ, ap, sym, length, take, drop, get_or, pos, arith, rules, append_assoc, length-append, length-take-le, length-set, to_z, of_z, w32}
use Rattle.std.proofs.lemmas.List.{take_more}
use lib.Seq.{take_all}
use Rattle.units.proofs.Copying.{written_more}
use Rattle.book_rules.specs.Words.{put}
use Rattle.cells.proofs.stores.store_words.Goals as goal

pub loop-i-preserved : goal.loop-i-preserved
loop-i-preserved c =
    let w = c.args.book.now in
    let ws = c.args.words.now in
    let at = c.args.at in
    let i = c.loop-i.i in
    let front = take at w ++ take i ws in
    let x : to_z w32 (of_z w32 (get_or ws i (pos 0))) ≡ get_or ws i (pos 0) = search rules in
    let long : length front ≡ at + i = simp length-append (omega (arith, length-take-le at w (omega arith), length-take-le i ws (omega arith))) in
    let next : at + (i + 1) ≡ (at + i) + 1 = omega arith in (
      simp length-set c.loop-i.invariant.0,
      rw (x, c.loop-i.invariant.1, next)
          (written_more front w (at + i) (get_or ws i (pos 0)) long (omega arith)
          ∙ ap (λ (l : List ℤ). l ++ drop ((at + i) + 1) w) (append_assoc (take at w) (take i ws) (get_or ws i (pos 0) ∷ []) ∙ ap (λ (l : List ℤ). take at w ++ l) (sym (take_more ws i (pos 0) (omega arith))))),
    )

pub returns : goal.returns
unfolding put
returns c =
    let w = c.args.book.now in
    let ws = c.args.words.now in
    let i : c.loop-i.i ≡ length ws = omega arith in
    c.loop-i.invariant.1 ∙ rw (i, take_all (length ws) ws (omega arith)) (append_assoc (take c.args.at w) ws (drop (c.args.at + length ws) w))
