use Rattle.std.proofs.Common.{◌≡◌, ◌∙◌, ap, Bool, ◌&&◌, rules}
use Rattle.offer_rules.specs.Numbers.{between}
use Rattle.book_rules.specs.Record.{byte}
use Rattle.record.proofs.Mark.{marked}
use Rattle.record.proofs.is_record.Goals as goal

pub returns-then-starts_with : goal.returns-then-starts_with
returns-then-starts_with c =
    let b = c.args.bytes.now in
    let call : c.contains.result ≡ between 1 9 (byte b 5) = search rules in
    call ∙ ap (λ (t : Bool). t && between 1 9 (byte b 5)) c.if-starts_with.ensures.value ∙ marked b c.told-bytes

pub returns-else-starts_with : goal.returns-else-starts_with
returns-else-starts_with c =
    let b = c.args.bytes.now in
    c.if-starts_with.false ∙ ap (λ (t : Bool). t && between 1 9 (byte b 5)) c.if-starts_with.ensures.value ∙ marked b c.told-bytes
