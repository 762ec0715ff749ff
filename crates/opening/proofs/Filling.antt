-- Facilities written one after another.
use mathlib.Core.Path.{◌≡◌, refl, sym, ap, ◌∙◌}
use mathlib.Core.List.{List, ◌++◌, append_assoc, append-nil}
use Prim.Native.Nat.{ℕ, zero, suc}
use lib.IntN.{ℤ}
use lib.ListN.{length}
use Rattle.book_rules.specs.Words.{empty_facility, empty_facilities}

pub length_facility : length empty_facility ≡ 32
unfolding empty_facility
length_facility = refl

pub facilities_snoc : (n : ℕ) → empty_facilities (suc n) ≡ empty_facilities n ++ empty_facility
unfolding empty_facilities
facilities_snoc zero = append-nil empty_facility
facilities_snoc (suc n) = ap (λ (l : List ℤ). empty_facility ++ l) (facilities_snoc n) ∙ sym (append_assoc empty_facility (empty_facilities n) empty_facility)
