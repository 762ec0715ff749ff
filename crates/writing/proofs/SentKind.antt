-- The kind that a capability sends draws 8 by itself, whatever its other words.
use Rattle.std.proofs.Common.{◌≡◌, ◌∙◌, refl, sym, Bool, true, false, List, ℕ, ℤ}
use Rattle.offer_rules.specs.Numbers.{draw}
use Rattle.layout.specs.Refusal.{number}
use Rattle.layout.specs.declared.refusal.Refusal.{Refusal}
use Rattle.book_rules.specs.Record.{word_at, words_at, capability_in}
use Rattle.book_rules.specs.Refusals.{kind_refused, capability_number}
use Rattle.layout.proofs.Chains.{is_drawn}

drawn_eight : (held : List ℤ) (b : List ℕ) → kind_refused held (word_at b 32) ≡ true → capability_number held (capability_in b) ≡ 8
unfolding capability_number capability_in words_at draw
drawn_eight held b h = rw h

pub sent_kind_drawn : (r : Refusal) (held : List ℤ) (b : List ℕ) → number r ≡ draw (kind_refused held (word_at b 32)) 8 → number r ≡ capability_number held (capability_in b)
unfolding draw
sent_kind_drawn r held b e = go (kind_refused held (word_at b 32)) refl e
  where
    go : (t : Bool) → kind_refused held (word_at b 32) ≡ t → number r ≡ draw t 8 → number r ≡ capability_number held (capability_in b)
    go true h n = n ∙ sym (drawn_eight held b h)
    go false h n = absurd (is_drawn r n)
