-- Documents 01 and 02, kind by kind: each sentence that names a kind, held against the table of kinds (offer_rules Kinds).
-- For all words of a capability, damaged ones included. Claims; their proofs are in proofs/ByKind.
use Rattle.std.specs.Prelude.{◌≡◌, Bool, false, cond, not, ◌&&◌, ◌||◌, List, ℕ, ◌≤◌, ltb, ℤ, pos}
use Rattle.std.specs.Int.Signed.{lt_z}
use Rattle.offer_rules.specs.Numbers.{eq_z, beyond, any_beyond}
use Rattle.offer_rules.specs.Offer.{kind_of, is_energy, is_reserve, max_proportion, proportion, proportion_refused}
use Rattle.offer_rules.specs.Gate.{Grounds, covers, reason_holds}
use Rattle.book_rules.specs.Refusals.{has_kind, outage_refused, kind_refused, maxima_refused, is_registered, capability_refused, registration_refused}

-- "Facility kinds: 1 generation, 2 load"; "A cross-border link becomes facility kind 3"
abbrev pub is_generation : ℤ → Bool
is_generation kind = eq_z kind (pos 1)

abbrev pub is_load : ℤ → Bool
is_load kind = eq_z kind (pos 2)

abbrev pub is_link : ℤ → Bool
is_link kind = eq_z kind (pos 3)

abbrev pub is_one_of_three : ℤ → Bool
is_one_of_three kind = (is_generation kind || is_load kind) || is_link kind

-- 5 "facility has kind neither 1 nor 2 in the book"; "Refusals 5 and 8 read 1, 2 or 3 for the kind."
unfoldable pub ThreeKinds : Type 0
ThreeKinds = (c : List ℤ) → has_kind c ≡ is_one_of_three (kind_of c)

-- 8 "kind not 1 or 2 or unlike a held 1 or 2", with 3 beside them
unfoldable pub HeldKinds : Type 0
HeldKinds = (held : List ℤ) (kind : ℤ)
    → kind_refused held kind ≡ (not (is_one_of_three kind) || (is_one_of_three (kind_of held) && not (eq_z (kind_of held) kind)))

-- 7 "not 0 ≤ m ≤ now, or n outside 1–3 (load 1–48)"; "An outage call for [a link] is refused with 7."
unfoldable pub Outages : Type 0
Outages = (now : ℕ) (c : List ℤ) (m n : ℤ)
    → outage_refused now c m n ≡ ((beyond (pos 0) (pos now) m || beyond (pos 1) (cond (is_load (kind_of c)) (pos 48) (pos 3)) n) || is_link (kind_of c))

-- 8, all of it: its kind and maxima, "a mark not 0 or 1; load with mark 0 or 4 set"; a link "may have mark 0 only, else 8"
abbrev pub load_astray : List ℤ → Bool
load_astray c = is_load (kind_of c) && (is_registered c 0 || is_registered c 4)

abbrev pub link_astray : List ℤ → Bool
link_astray c = is_link (kind_of c) && (((is_registered c 1 || is_registered c 2) || is_registered c 3) || is_registered c 4)

unfoldable pub Capabilities : Type 0
Capabilities = (held c : List ℤ)
    → capability_refused held c
    ≡ ((kind_refused held (kind_of c) || maxima_refused c) || ((any_beyond (pos 0) (pos 1) c 12 5 || load_astray c) || link_astray c))

-- 9 "mark for the service not 1"; "also covers [a link's] offers for services 1 to 4"
unfoldable pub Registrations : Type 0
Registrations = (c : List ℤ) (s : ℕ) → s ≤ 4
    → registration_refused c s ≡ (not (is_registered c s) || (is_link (kind_of c) && not (is_energy s)))

-- 15 "generation reserve: proportion 0 or above its maximum; load isn't tested"
unfoldable pub Proportions : Type 0
Proportions = (c : List ℤ) (s : ℕ) (o : List ℤ)
    → proportion_refused c s o ≡ ((is_generation (kind_of c) && is_reserve s) && (eq_z (proportion o) (pos 0) || lt_z (max_proportion c s) (proportion o)))

-- 17, "it needs a reason", and the list of reasons in "Gate"; "Reasons 3, 4 and 5 are open to [a link]; 1, 2 and 6 are not."
unfoldable pub Reasons : Type 0
Reasons = (g : Grounds) (s p old new : ℕ)
    → (reason_holds g s p old new 0 ≡ false)
    × (reason_holds g s p old new 1 ≡ is_generation g.kind)
    × (reason_holds g s p old new 2 ≡ (is_generation g.kind && covers g.outage p))
    × (reason_holds g s p old new 3 ≡ ((is_energy s && covers g.surplus p) && ltb new old))
    × (reason_holds g s p old new 4 ≡ (covers g.shortfall p && ltb old new))
    × (reason_holds g s p old new 5 ≡ (covers g.status p && ltb old new))
    × (reason_holds g s p old new 6 ≡ (is_load g.kind && covers g.outage p))
