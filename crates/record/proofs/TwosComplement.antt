-- The machine's reading of four bytes is the record's `signed`.
use Rattle.std.proofs.Common.{◌≡◌, refl, sym, ap, ◌∙◌, Bool, true, false, cond, List, ℕ, suc, ◌+◌, ◌-◌, ◌<◌, get_or, take, drop, ltb, arith}
use Rattle.std.proofs.lemmas.List.{get_or-take, get_or-drop}
use lib.IntN.{ℤ, pos, negsuc}
use mir.Syntax.{w32}
use mir.Val.{to_z, sel}
use Rattle.std.specs.Int.{from_be_bytes}
use Rattle.book_rules.specs.Record.{byte, signed, word_at}

sel_cond : (t : Bool) (x y : ℤ) → sel t x y ≡ cond t x y
sel_cond true x y = refl
sel_cond false x y = refl

pub to_z_signed : (n : ℕ) → to_z w32 n ≡ signed n
unfolding signed
to_z_signed n =
    sel_cond (ltb n 0x80000000) (pos n) (negsuc (0x100000000 - suc n))
    ∙ ap (λ (k : ℕ). cond (ltb n 0x80000000) (pos n) (negsuc k)) (omega arith)

-- four bytes taken from byte `at` on
pub four_signed : (b x : List ℕ) (at : ℕ) → take 4 (drop at b) ≡ x → to_z w32 (from_be_bytes w32 x) ≡ word_at b at
unfolding word_at
four_signed b x at e =
    let first : get_or x 0 0 ≡ byte b at = each 0 (omega arith) ∙ ap (byte b) (omega arith) in
    to_z_signed _ ∙ ap signed (omega (arith, first, each 1 (omega arith), each 2 (omega arith), each 3 (omega arith)))
  where
    each : (i : ℕ) → i < 4 → get_or x i 0 ≡ byte b (at + i)
    each i h = sym (ap (λ (l : List ℕ). get_or l i 0) e) ∙ get_or-take 4 (drop at b) i 0 h ∙ get_or-drop at b i 0
