-- A slot's two cells, and the cells of one facility and the next, lie constants apart.
use Rattle.std.proofs.Common.{◌≡◌, ℕ, ◌+◌, ◌*◌, arith}
use Rattle.book_rules.specs.Words.{cell_place, standing_half, variation_half}

pub variation_place : (F S f s k : ℕ) → cell_place F S f s variation_half k ≡ cell_place F S f s standing_half k + 8064
unfolding cell_place
variation_place F S f s k = omega arith

pub first_place : (F S s k : ℕ) → cell_place F S 0 s standing_half k ≡ 64 + 32 * F + 16128 * s + 24 * k
unfolding cell_place
first_place F S s k = omega arith

pub next_place : (F S f s k : ℕ) → cell_place F S (f + 1) s standing_half k ≡ cell_place F S f s standing_half k + 16128 * S
unfolding cell_place
next_place F S f s k = omega arith
