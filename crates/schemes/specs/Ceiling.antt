-- Where prices and sums stop: at 1,000,000,000.
use Rattle.std.specs.Prelude.{ℕ, ◌≤◌, min, cond, nat_le}
use Rattle.std.proofs.Common.{le_trans}
use Rattle.std.proofs.Math.Nat.{le_refl, min-le_left, min-le_right, not-le_of_lt}
use Rattle.std.proofs.lemmas.Bool.{cond_both, leb-false}

abbrev pub stopped : ℕ → ℕ
stopped n = min n 1000000000

-- the draw beside an area: if the area reaches the ceiling, so does the draw
abbrev pub draw_beside : ℕ → ℕ → ℕ
draw_beside a d = cond (nat_le 1000000000 a) 1000000000 (stopped d)

-- The ranges of such a pair hold, whatever the two numbers are.
pub stopped_few : (n : ℕ) → stopped n ≤ 1000000000
stopped_few n = min-le_right n 1000000000

pub draw_few : (a d : ℕ) → draw_beside a d ≤ 1000000000
draw_few a d = cond_both (nat_le 1000000000 a) 1000000000 (stopped d) (λ x. x ≤ 1000000000) (λ _. le_refl 1000000000) (λ _. stopped_few d)

pub draw_full : (a d : ℕ) → 1000000000 ≤ stopped a → 1000000000 ≤ draw_beside a d
draw_full a d full =
    cond_both (nat_le 1000000000 a) 1000000000 (stopped d) (λ x. 1000000000 ≤ x) (λ _. le_refl 1000000000)
    (λ less. absurd (not-le_of_lt (leb-false 1000000000 a less) (le_trans full (min-le_left a 1000000000))))
