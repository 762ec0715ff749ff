-- "Bytes 0–2 SOB; 3–4 version 1": the first five bytes, compared at once.
use Rattle.std.proofs.Common.{◌≡◌, ℕ, List, [], ◌∷◌, length, ◌&&◌, eqb, arith}
use mathlib.Core.Bool.{and_assoc, and-true}
use borrow.Author.Tests.{eq-eqb}
use Rattle.std.specs.List.{starts_with}
use Rattle.units.proofs.Signs.{eqb_sym}
use Rattle.offer_rules.specs.Numbers.{between}
use Rattle.book_rules.specs.Record.{byte, is_record}

pub marked : (b : List ℕ) → length b ≡ 112 → (starts_with eqb b (83 ∷ 79 ∷ 66 ∷ 0 ∷ 1 ∷ []) && between 1 9 (byte b 5)) ≡ is_record b
unfolding is_record
marked [] h = absurd (omega arith)
marked (p ∷ []) h = absurd (omega arith)
marked (p ∷ q ∷ []) h = absurd (omega arith)
marked (p ∷ q ∷ r ∷ []) h = absurd (omega arith)
marked (p ∷ q ∷ r ∷ s ∷ []) h = absurd (omega arith)
marked (p ∷ q ∷ r ∷ s ∷ t ∷ l) h =
    rw (eq-eqb (length (p ∷ q ∷ r ∷ s ∷ t ∷ l)) 112 h, eqb_sym 83 p, eqb_sym 79 q, eqb_sym 66 r, eqb_sym 0 s, eqb_sym 1 t)
    (simp (and_assoc, and-true))
