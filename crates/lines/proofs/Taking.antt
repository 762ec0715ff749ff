-- Bytes taken from an input one after another, each read's put after those before.
use Rattle.std.proofs.Common.{◌≡◌, ℕ, ◌+◌, ◌≤◌, List, ◌++◌, length, take, ap, ◌∙◌, append_assoc, arith}
use Rattle.std.specs.Prelude.{Ok, None, Some}
use Rattle.std.specs.declared.result.Result.{Result}
use Rattle.std.specs.declared.option.Option.{Option}
use Rattle.std.specs.Io.{ReadsAtMost}
use Rattle.std.specs.Io.KnownBytes.{Consumes, ReadConsumes}
use Rattle.std.proofs.lemmas.List.{length-append, length-take-le, take-append-le}
use Rattle.std.proofs.Math.Seq.{take-append-add}
use borrow.Rule.Slice.PartMut.{put_mid, post_of}

pub taken_after : (old mid new : Option (List ℕ)) (s t : List ℕ) → Consumes old mid s → Consumes mid new t → Consumes old new (s ++ t)
taken_after None mid new s t p q = tt
taken_after (Some xs) None new s t p q = absurd p
taken_after (Some xs) (Some ys) None s t p q = absurd q
taken_after (Some xs) (Some ys) (Some zs) s t p q = rw (p, q, append_assoc)

-- A part written from `at` on, of which n bytes count.
pub put_on : (b p : List ℕ) (at k n : ℕ) → at ≤ length b → n ≤ length p → take (at + n) (put_mid at k b p) ≡ take at b ++ take n p
put_on b p at k n room within =
    rw (length-take-le at b room) at (take-append-add (take at b) (p ++ post_of at k b) n)
    ∙ ap (λ (t : List ℕ). take at b ++ t) (take-append-le n p (post_of at k b) within)

pub room_after : (b p : List ℕ) (at k n : ℕ) → at ≤ length b → n ≤ length p → at + n ≤ length (put_mid at k b p)
room_after b p at k n room within = simp length-append (omega (arith, length-take-le at b room))

-- One more read, which gave n bytes, after those before it.
pub taken_on : {E : Type 0} (old mid new : Option (List ℕ)) (r : Result ℕ E) (b p : List ℕ) (at k n : ℕ) → r ≡ Ok n → at ≤ length b
    → Consumes old mid (take at b) → ReadsAtMost r p → ReadConsumes mid new r p
    → (at + n ≤ length (put_mid at k b p)) × Consumes old new (take (at + n) (put_mid at k b p))
taken_on old mid new r b p at k n e room before bound bytes =
    let within = rw e at bound in
    let taken = rw e at bytes in
    (room_after b p at k n room within.0, rw (put_on b p at k n room within.0) (taken_after old mid new _ _ before taken.0))
