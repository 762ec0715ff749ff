-- A record's stray bytes are those that are not zero in the gaps between the bytes that its call uses.
-- Whether gaps are those of a call is computed: both sides become the same tests, byte by byte.
use Rattle.std.proofs.Common.{◌≡◌, refl, sym, ap, ◌∙◌, Bool, false, not, ◌&&◌, ◌||◌, eqb, List, [], ◌∷◌, ℕ, zero, suc, ◌+◌, length, drop, drop-cons, arith}
use Rattle.std.proofs.Math.Bool.{or-false, or_assoc, and_comm}
use Rattle.std.proofs.Math.ListN.{drop_of_length-le}
use Rattle.std.specs.List.{list_any}
use borrow.Rule.Slice.PartMut.{mid_of}
use Rattle.book_rules.specs.Record.{byte, any_stray}

abbrev pub is_set : ℕ → Bool
is_set x = not (eqb x 0)

-- ---- a gap lent as a part of the record: one of n bytes from byte i on is not zero

unfoldable pub any_set : List ℕ → ℕ → ℕ → Bool
any_set b i n = list_any is_set (mid_of i n b)

pub as_lent : (b : List ℕ) (i n : ℕ) → list_any is_set (mid_of i n b) ≡ any_set b i n
unfolding any_set
as_lent b i n = refl

-- ---- gaps

pub record Gap : Type 0 where
  pub start : ℕ
  pub count : ℕ

abbrev pub gap : ℕ → ℕ → Gap
gap i n = record { start = i; count = n }

-- as code says it
unfoldable pub set_in_gaps : List ℕ → List Gap → Bool
set_in_gaps b [] = false
set_in_gaps b (q ∷ []) = any_set b q.start q.count
set_in_gaps b (q ∷ (r ∷ l)) = any_set b q.start q.count || set_in_gaps b (r ∷ l)

-- byte by byte: n bytes from byte i on, or what comes later
unfoldable pub set_or : List ℕ → ℕ → ℕ → Bool → Bool
set_or b i zero later = later
set_or b i (suc n) later = is_set (byte b i) || set_or b (suc i) n later

unfoldable pub gap_bytes : List ℕ → List Gap → Bool
gap_bytes b [] = false
gap_bytes b (q ∷ l) = set_or b q.start q.count (gap_bytes b l)

-- byte by byte: those of n from byte i on that f doesn't use
unfoldable pub unused_bytes : (ℕ → Bool) → List ℕ → ℕ → ℕ → Bool
unused_bytes f b i zero = false
unused_bytes f b i (suc n) = (not (f i) && is_set (byte b i)) || unused_bytes f b (suc i) n

first_left : (x : ℕ) (b : List ℕ) (i n : ℕ) (later : Bool) → set_or (x ∷ b) (suc i) n later ≡ set_or b i n later
unfolding set_or
first_left x b i zero later = refl
first_left x b i (suc n) later = ap (λ (t : Bool). is_set (byte b i) || t) (first_left x b (suc i) n later)

-- past the end no byte is set
past_end : (i n : ℕ) (later : Bool) → set_or [] i n later ≡ later
unfolding set_or
past_end i zero later = refl
past_end i (suc n) later = past_end (suc i) n later

gap_first : (b : List ℕ) (i n : ℕ) (later : Bool) → (any_set b i n || later) ≡ set_or b i n later
unfolding any_set set_or
gap_first b i zero later = refl
gap_first [] zero (suc n) later = sym (past_end 1 n later)
gap_first [] (suc i) (suc n) later = sym (past_end (suc (suc i)) n later)
gap_first (x ∷ b) zero (suc n) later =
    or_assoc (is_set x) (any_set b 0 n) later
    ∙ ap (λ (t : Bool). is_set x || t) (gap_first b 0 n later ∙ sym (first_left x b 0 n later))
gap_first (x ∷ b) (suc i) (suc n) later = gap_first b i (suc n) later ∙ sym (first_left x b i (suc n) later)

each_gap : (b : List ℕ) (l : List Gap) → set_in_gaps b l ≡ gap_bytes b l
unfolding set_in_gaps gap_bytes
each_gap b [] = refl
each_gap b (q ∷ []) = sym (or-false (any_set b q.start q.count)) ∙ gap_first b q.start q.count false
each_gap b (q ∷ (r ∷ l)) = rw (each_gap b (r ∷ l)) (gap_first b q.start q.count (gap_bytes b (r ∷ l)))

-- f is the rule of a call, g the same, computing
each_byte : (f g : ℕ → Bool) (b : List ℕ) (n i : ℕ) → i + n ≡ length b → ((j : ℕ) → f j ≡ g j) → any_stray f i (drop i b) ≡ unused_bytes g b i n
unfolding any_stray unused_bytes
each_byte f g b zero i e h = rw (drop_of_length-le b {i = i} (omega arith))
each_byte f g b (suc n) i e h = rw (drop-cons b i 0 (omega arith), h i, and_comm (is_set (byte b i)) (not (g i)), each_byte f g b n (suc i) (omega arith) h)

pub stray_in_gaps : (f g : ℕ → Bool) (b : List ℕ) (l : List Gap) → length b ≡ 112 → ((j : ℕ) → f j ≡ g j) → gap_bytes b l ≡ unused_bytes g b 6 106
    → set_in_gaps b l ≡ any_stray f 6 (drop 6 b)
stray_in_gaps f g b l n h e = each_gap b l ∙ e ∙ sym (each_byte f g b 106 6 (sym n) h)
