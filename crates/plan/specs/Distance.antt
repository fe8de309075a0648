-- How far two starts are apart: their busy steps meet where that is below the busy time.
use Rattle.std.specs.Prelude.{ℕ, ◌+◌, ◌-◌, ◌%◌, min, cond, ◌==◌}

abbrev pub apart : ℕ → ℕ → ℕ
apart a b = (a - b) + (b - a)

-- in one sample or, with a latency l, going round it in the shorter way
abbrev pub distance : ℕ → ℕ → ℕ → ℕ
distance l a b = cond (l == 0) (apart a b) (min (apart a b % l) (l - apart a b % l))
