use Rattle.std.proofs.Common.{◌≡◌, sym, ◌∙◌, rules}
use Rattle.gate.specs.Meaning.{grounds_of, words_held, words_of}
use Rattle.gate.proofs.Admitted.{decided}
use Rattle.gate.proofs.is_excepted.Goals as goal

pub returns-then-is_total_moved : goal.returns-then-is_total_moved
returns-then-is_total_moved c =
    let f = c.args.filing in
    let w : words_held c.args.old ≡ words_of c.map.result = search rules in
    let e = decided (grounds_of c.args.g) f.service f.period f.reason c.of-before.ensures c.of-after.ensures (sym c.is_admitted.ensures ∙ c.if-not-is_admitted.false) in
    rw w (sym (e ∙ rw (← c.is_total_moved.ensures, c.if-is_total_moved.true, ← c.same_prices.ensures)))

pub returns-else-is_total_moved : goal.returns-else-is_total_moved
returns-else-is_total_moved c =
    let f = c.args.filing in
    let w : words_held c.args.old ≡ words_of c.map.result = search rules in
    let e = decided (grounds_of c.args.g) f.service f.period f.reason c.of-before.ensures c.of-after.ensures (sym c.is_admitted.ensures ∙ c.if-not-is_admitted.false) in
    rw w (sym (e ∙ rw (← c.is_total_moved.ensures, c.if-is_total_moved.false)))
