-- A book freshly opened shows what an empty list shows.
use mathlib.Core.Path.{◌≡◌, refl, sym, ◌∙◌, ap, ap₂}
use mathlib.Core.Bool.{true, false, ◌&&◌, true≢false}
use mathlib.Core.List.{List, [], ◌∷◌, ◌++◌, append_assoc}
use Prim.Native.Nat.{ℕ, zero, suc, ◌+◌, ◌*◌, ◌-◌, ◌≤◌, ◌<◌}
use native.Mathlib.Omega.{arith}
use lib.Dec.{leb}
use lib.IntN.{ℤ, pos, negsuc}
use lib.ListN.{length, get_or, take, drop, replicate, length-replicate, length-append, length-drop, get_or-append}
use lib.Seq.{take_at, drop-append-add, drop-append-le, take-append-le, get_or-append-add, get_or-take, get_or-drop}
use borrow.Author.Tests.{leb-true, not-false}
use Rattle.offer_rules.specs.Numbers.{to_nat, word, zeros}
use Rattle.offer_rules.specs.Time.{slot_of}
use Rattle.offer_rules.proofs.Drawn.{and_left, and_right, draw_zero}
use Rattle.book_rules.specs.Record.{sizes_ok}
use Rattle.book_rules.specs.Words.{part, book_size, limits_place, cell_place, standing_half, variation_half, variation_stamp, empty_facility, empty_facilities, opening_head, opened, opening_number, opening_words, limits_ok}
use Rattle.book_rules.specs.ListMachine.{newest, list_clock, list_capability, list_outage, list_notice, list_standing, list_variation}
use Rattle.book_rules.proofs.Places.{Key, clock_k, notice_k, capability_k, outage_k, standing_k, variation_k, place, width, Valid, cell_inside}
use Rattle.book_rules.proofs.Filings.{window_words, offer_words, listed, shown}
use Rattle.book_rules.proofs.Same.{Same, other_stamp}

zero_words : (n i : ℕ) → get_or (replicate n (pos 0)) i (pos 0) ≡ pos 0
zero_words zero i = refl
zero_words (suc n) zero = refl
zero_words (suc n) (suc i) = zero_words n i

pub length_facilities : (n : ℕ) → length (empty_facilities n) ≡ 32 * n
unfolding empty_facilities empty_facility
length_facilities zero = refl
length_facilities (suc n) = let h = length_facilities n in simp length-append (omega arith)

pub length_head : (F S : ℕ) (limits : List ℤ) → length limits ≡ 6 → length (opening_head F S limits) ≡ 64
unfolding opening_head
length_head F S limits six = simp (length-append, length-replicate) (omega arith)

-- A part of a facility's words.
part_of_facility : (n f i m : ℕ) (t : List ℤ) → f < n → i + m ≤ 32 → take m (drop (32 * f + i) (empty_facilities n ++ t)) ≡ take m (drop i empty_facility)
unfolding empty_facilities
part_of_facility zero f i m t h k = absurd (omega arith)
part_of_facility (suc n) zero i m t h k =
    let j : 32 * 0 + i ≡ i = omega arith in
    let b : length empty_facility ≡ 32 = unfold empty_facility in refl in
    ap (λ (x : ℕ). take m (drop x ((empty_facility ++ empty_facilities n) ++ t))) j
    ∙ ap (λ (x : List ℤ). take m (drop i x)) (append_assoc empty_facility (empty_facilities n) t)
    ∙ ap (take m) (drop-append-le i empty_facility (empty_facilities n ++ t) (omega arith))
    ∙ take-append-le m (drop i empty_facility) (empty_facilities n ++ t) (simp length-drop (omega arith))
part_of_facility (suc n) (suc f) i m t h k =
    let b : length empty_facility ≡ 32 = unfold empty_facility in refl in
    let j : 32 * suc f + i ≡ length empty_facility + (32 * f + i) = omega arith in
    ap (λ (x : ℕ). take m (drop x ((empty_facility ++ empty_facilities n) ++ t))) j
    ∙ ap (λ (x : List ℤ). take m (drop (length empty_facility + (32 * f + i)) x)) (append_assoc empty_facility (empty_facilities n) t)
    ∙ ap (take m) (drop-append-add empty_facility (empty_facilities n ++ t) (32 * f + i))
    ∙ part_of_facility n f i m t (omega arith) k

module _ (F S : ℕ) (limits past : List ℤ) (six : length limits ≡ 6) where
  cells : List ℤ
  cells = zeros (16128 * (F * S)) ++ past

  length_opened : book_size F S ≤ length (opened F S limits past)
  unfolding book_size opened
  length_opened = simp (length-append, length-replicate, length_head F S limits six, length_facilities) (omega arith)

  part_past_head : (j m : ℕ) → take m (drop (64 + j) (opened F S limits past)) ≡ take m (drop j (empty_facilities F ++ cells))
  unfolding opened cells
  part_past_head j m =
      let e = length_head F S limits six in
      let i : 64 + j ≡ length (opening_head F S limits) + j = omega arith in
      ap (λ (x : ℕ). take m (drop x (opened F S limits past))) i
      ∙ ap (take m) (drop-append-add (opening_head F S limits) (empty_facilities F ++ cells) j)

  notices : (k : ℕ) → 3 ≤ k → k ≤ 5 → take 2 (drop (2 * k - 1) (opened F S limits past)) ≡ pos 1 ∷ (pos 0 ∷ [])
  unfolding opened opening_head
  notices zero a b = absurd (omega arith)
  notices (suc zero) a b = absurd (omega arith)
  notices (suc (suc zero)) a b = absurd (omega arith)
  notices (suc (suc (suc zero))) a b = refl
  notices (suc (suc (suc (suc zero)))) a b = refl
  notices (suc (suc (suc (suc (suc zero))))) a b = refl
  notices (suc (suc (suc (suc (suc (suc k)))))) a b = absurd (omega arith)

  -- No cell is stamped.
  no_stamp : (f s h k : ℕ) → f < F → s < S → h < 2 → k < 336 → word (part (cell_place F S f s h k) 24 (opened F S limits past)) 0 ≡ pos 0
  unfolding part cells opened cell_place book_size
  no_stamp f s h k hf hs hh hk =
      let n = ((f * S + s) * 2 + h) * 336 + k in
      let a = 64 + 32 * F + 24 * n in
      let inside = cell_inside F S f s h k hf hs hh hk in
      let eh = length_head F S limits six in
      let ef = length_facilities F in
      let all : opened F S limits past ≡ (opening_head F S limits ++ empty_facilities F) ++ cells = sym (append_assoc (opening_head F S limits) (empty_facilities F) cells) in
      let j : a + 0 ≡ length (opening_head F S limits ++ empty_facilities F) + 24 * n = simp length-append (omega arith) in
      get_or-take 24 (drop a (opened F S limits past)) 0 (pos 0) (omega arith)
      ∙ get_or-drop a (opened F S limits past) 0 (pos 0)
      ∙ ap₂ (λ (x : ℕ) (y : List ℤ). get_or y x (pos 0)) j all
      ∙ get_or-append-add (opening_head F S limits ++ empty_facilities F) cells (24 * n) (pos 0)
      ∙ get_or-append (replicate (16128 * (F * S)) (pos 0)) past (pos 0) (24 * n) (simp length-replicate (omega arith))
      ∙ zero_words (16128 * (F * S)) (24 * n)

  opened_at : (κ : Key) → Valid F S κ → shown κ (part (place F S κ) (width κ) (opened F S limits past)) ≡ listed [] κ
  unfolding shown part place width listed newest list_clock list_capability list_outage list_notice list_standing list_variation window_words empty_facility
  opened_at clock_k v = unfold opened opening_head in refl
  opened_at (notice_k k) v = notices k v.0 v.1
  opened_at (capability_k f) v =
      let j : 32 * f ≡ 32 * f + 0 = omega arith in
      part_past_head (32 * f) 17
      ∙ ap (λ (x : ℕ). take 17 (drop x (empty_facilities F ++ cells))) j
      ∙ part_of_facility F f 0 17 cells v (omega arith)
  opened_at (outage_k f) v =
      let j : 64 + 32 * f + 17 ≡ 64 + (32 * f + 17) = omega arith in
      ap (λ (x : ℕ). take 2 (drop x (opened F S limits past))) j ∙ part_past_head (32 * f + 17) 2 ∙ part_of_facility F f 17 2 cells v (omega arith)
  opened_at (standing_k f s k) v = ap offer_words (other_stamp 1 0 _ (no_stamp f s standing_half k v.0 v.1 (omega arith) v.2) (λ e. omega arith))
  opened_at (variation_k f s p) v =
      ap offer_words (other_stamp (variation_stamp p) 0 _ (no_stamp f s variation_half (slot_of p) v.0 v.1 (omega arith) (omega arith)) (λ e. omega arith))

  limits_opened : part limits_place 6 (opened F S limits past) ≡ limits
  unfolding part opened opening_head cells
  limits_opened =
      ap (take 6) (append_assoc limits (zeros 47) (empty_facilities F ++ cells)) ∙ take_at limits (zeros 47 ++ (empty_facilities F ++ cells)) 6 six

  pub opened_same : Same F S limits (opened F S limits past) []
  opened_same = record {
    fits = length_opened;
    mark_is = unfold opened opening_head in refl;
    version_is = unfold opened opening_head in refl;
    F-is = unfold opened opening_head in refl;
    S-is = unfold opened opening_head in refl;
    limits_is = limits_opened;
    timely = unfold newest list_clock in refl;
    at_same = λ κ v a. opened_at κ v;
    none_far = λ f s p h. unfold listed newest list_variation offer_words in refl;
  }

-- ---- the opening

-- Sizes that are not refused are counts.
counts : (F S : ℤ) → sizes_ok F S ≡ true → sizes_ok (pos (to_nat F)) (pos (to_nat S)) ≡ true
unfolding sizes_ok
counts (pos F) (pos S) e = e
counts (pos F) (negsuc S) e = absurd (true≢false (sym (and_right (leb 1 F && leb F 64) false e)))
counts (negsuc F) S e = absurd (true≢false (sym e))

-- What 20 leaves: sizes, and words enough.
pub opening_passed : (w : List ℤ) (F S : ℤ) (limits : List ℤ) → opening_number w F S limits ≡ 0 → (sizes_ok F S ≡ true) × (book_size (to_nat F) (to_nat S) ≤ length w)
unfolding opening_number
opening_passed w F S limits z =
    let room = leb (book_size (to_nat F) (to_nat S)) (length w) in
    let fit = and_left (sizes_ok F S && room) (limits_ok limits) (not-false ((sizes_ok F S && room) && limits_ok limits) (draw_zero _ 20 (omega arith) z)) in
    (and_left (sizes_ok F S) room fit, leb-true (book_size (to_nat F) (to_nat S)) (length w) (and_right (sizes_ok F S) room fit))

module _ (w : List ℤ) (F S : ℤ) (limits : List ℤ) (six : length limits ≡ 6) (z : opening_number w F S limits ≡ 0) where
  pub sizes_opened : sizes_ok (pos (to_nat F)) (pos (to_nat S)) ≡ true
  sizes_opened = counts F S (opening_passed w F S limits z).0

  pub opening_same : Same (to_nat F) (to_nat S) limits (opening_words w F S limits) []
  unfolding opening_words
  opening_same = rw z (opened_same (to_nat F) (to_nat S) limits (drop (book_size (to_nat F) (to_nat S)) w) six)
