-- Two schemes of cost: by area, and by area and then draw. Prices and sums stop at 1,000,000,000.
use Rattle.std.specs.Prelude.{ℕ, ◌+◌, ◌*◌, ◌&&◌, ◌||◌, ◌==◌, nat_le, nat_lt}
use Rattle.schemes.specs.declared.rank.Rank.{Rank}
use Rattle.schemes.specs.Ceiling.{stopped, draw_beside, stopped_few, draw_few, draw_full}
use Rattle.schemes.specs.Costs.{Meaning}

abbrev pub by_area : Meaning ℕ
by_area = record { nothing = 0; price = λ k n. stopped (k.area * n); sum = λ a b. stopped (a + b); at_most = nat_le }

-- an area and a draw, each stopped
abbrev pub rank : ℕ → ℕ → Rank
rank a d = record { area = stopped a; draw = draw_beside a d; area_range = stopped_few a; draw_range = draw_few a d; full = draw_full a d }

abbrev pub by_rank : Meaning Rank
by_rank = record {
  nothing = rank 0 0;
  price = λ k n. rank (k.area * n) (k.draw * n);
  sum = λ a b. rank (a.area + b.area) (a.draw + b.draw);
  at_most = λ a b. nat_lt a.area b.area || (a.area == b.area && nat_le a.draw b.draw);
}
