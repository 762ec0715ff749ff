use Rattle.std.proofs.Common.{◌≡◌, ◌∙◌, ◌≤◌, ℕ, ℤ, List, arith}
use Rattle.book_rules.specs.Record.{call_of}
use Rattle.book_rules.proofs.Calls.{Which, is_clock, is_capability, is_standing, is_variation, is_outage, is_notice, is_withdrawal, is_look_up, is_total}
use Rattle.judging.specs.Tested.{Tested}
use Rattle.judging.proofs.Answering.{unwritten}
use Rattle.book.specs.Tests.{tested_number}
use Rattle.book.proofs.Admitted.{turned_down, passed, one_of_nine, capability_facility, outage_facility, standing_place, variation_place, look_up_place, total_service}
use Rattle.book.proofs.call.Goals as goal
use Rattle.book.proofs.call.Goals.{in-0-1, in_default-1}

-- The record, which is the bytes.
admitted : (w : List ℤ) {b r : List ℕ} → 0 ≡ tested_number w b → r ≡ b → Tested w r
admitted w {b} {r} e same = passed w r (e ∙ rw same)

pub returns-in-Err : goal.returns-in-Err
returns-in-Err c =
    let x = turned_down c.args.book.now c.args.bytes.now c.in-Err.refusal c.in-Err.ensures.number in
    (c.from.ensures ∙ x.0, x.1)

pub clock_call-requires : goal.clock_call-requires
clock_call-requires c = (admitted c.args.book.now c.in-Ok.ensures.number c.in-Ok.ensures.same, c.in-1.is)

pub capability_call-requires : goal.capability_call-requires
capability_call-requires c =
    capability_facility c.args.book.now c.in-Ok.record.now (admitted c.args.book.now c.in-Ok.ensures.number c.in-Ok.ensures.same) c.in-2.is

pub standing_call-requires : goal.standing_call-requires
standing_call-requires c =
    standing_place c.args.book.now c.in-Ok.record.now (admitted c.args.book.now c.in-Ok.ensures.number c.in-Ok.ensures.same) c.in-3.is

pub variation_call-requires : goal.variation_call-requires
variation_call-requires c =
    variation_place c.args.book.now c.in-Ok.record.now (admitted c.args.book.now c.in-Ok.ensures.number c.in-Ok.ensures.same) c.in-4.is

pub outage_call-requires : goal.outage_call-requires
outage_call-requires c =
    outage_facility c.args.book.now c.in-Ok.record.now (admitted c.args.book.now c.in-Ok.ensures.number c.in-Ok.ensures.same) c.in-5.is

pub notice_call-requires : goal.notice_call-requires
notice_call-requires c = (admitted c.args.book.now c.in-Ok.ensures.number c.in-Ok.ensures.same, c.in-6.is)

pub withdrawal_call-requires : goal.withdrawal_call-requires
withdrawal_call-requires c = (admitted c.args.book.now c.in-Ok.ensures.number c.in-Ok.ensures.same, c.in-7.is)

pub look_up_call-requires : goal.look_up_call-requires
look_up_call-requires c =
    look_up_place c.args.book.now c.in-Ok.record.now (admitted c.args.book.now c.in-Ok.ensures.number c.in-Ok.ensures.same) c.in-8.is

pub returns-in-8 : goal.returns-in-8
returns-in-8 c =
    let t = admitted c.args.book.now c.in-Ok.ensures.number c.in-Ok.ensures.same in
    rw (← c.in-Ok.ensures.same) (c.from-in-8.ensures ∙ c.look_up_call.ensures, unwritten c.args.book.now c.in-Ok.record.now t 8 c.in-8.is (omega arith))

pub total_call-requires : goal.total_call-requires
total_call-requires c =
    let t = admitted c.args.book.now c.in-Ok.ensures.number c.in-Ok.ensures.same in
    (t, c.in-9.is, total_service c.args.book.now c.in-Ok.record.now t c.in-9.is)

pub returns-in-9 : goal.returns-in-9
returns-in-9 c =
    let t = admitted c.args.book.now c.in-Ok.ensures.number c.in-Ok.ensures.same in
    rw (← c.in-Ok.ensures.same) (c.from-in-9.ensures ∙ c.total_call.ensures, unwritten c.args.book.now c.in-Ok.record.now t 9 c.in-9.is (omega arith))

-- Refusal 2 has turned down every other call.
is_one_to_nine : (b : List ℕ) → Which b → (1 ≤ call_of b) × (call_of b ≤ 9)
is_one_to_nine b (is_clock e) = (omega arith, omega arith)
is_one_to_nine b (is_capability e) = (omega arith, omega arith)
is_one_to_nine b (is_standing e) = (omega arith, omega arith)
is_one_to_nine b (is_variation e) = (omega arith, omega arith)
is_one_to_nine b (is_outage e) = (omega arith, omega arith)
is_one_to_nine b (is_notice e) = (omega arith, omega arith)
is_one_to_nine b (is_withdrawal e) = (omega arith, omega arith)
is_one_to_nine b (is_look_up e) = (omega arith, omega arith)
is_one_to_nine b (is_total e) = (omega arith, omega arith)

pub returns-in-0 : goal.returns-in-0
returns-in-0 c =
    let t = admitted c.args.book.now c.in-Ok.ensures.number c.in-Ok.ensures.same in
    let n = is_one_to_nine c.in-Ok.record.now (one_of_nine c.args.book.now c.in-Ok.record.now t) in
    elim c.in-0-1.branch [ in-0-1 w ↦ absurd (omega (arith, n.0)) | in_default-1 w ↦ absurd (omega (arith, n.0, n.1)) ]
