-- Cases by kind: the three, and every word that is none of them.
use mathlib.Core.Path.{◌≡◌, refl, sym, subst}
use mathlib.Core.Bool.{Bool, true, false}
use lib.IntN.{ℤ, pos}
use Rattle.offer_rules.specs.Numbers.{eq_z}
use Rattle.offer_rules.specs.Kinds.{kind_row}
use Rattle.offer_rules.proofs.Ranges.{same_word}

no_row : (z : ℤ) → eq_z z (pos 1) ≡ false → eq_z z (pos 2) ≡ false → eq_z z (pos 3) ≡ false → kind_row z ≡ kind_row (pos 0)
unfolding kind_row
no_row z a b c = rw (a, b, c) refl

pub each_kind : (P : ℤ → Type 0) → P (pos 1) → P (pos 2) → P (pos 3)
    → ((z : ℤ) → kind_row z ≡ kind_row (pos 0) → eq_z z (pos 1) ≡ false → eq_z z (pos 2) ≡ false → eq_z z (pos 3) ≡ false → P z) → (kind : ℤ) → P kind
each_kind P generation load link other kind = by (eq_z kind (pos 1)) (eq_z kind (pos 2)) (eq_z kind (pos 3)) refl refl refl
  where
    by : (a b c : Bool) → eq_z kind (pos 1) ≡ a → eq_z kind (pos 2) ≡ b → eq_z kind (pos 3) ≡ c → P kind
    by true b c d e f = subst P (sym (same_word kind (pos 1) d)) generation
    by false true c d e f = subst P (sym (same_word kind (pos 2) e)) load
    by false false true d e f = subst P (sym (same_word kind (pos 3) f)) link
    by false false false d e f = other kind (no_row kind d e f) d e f
