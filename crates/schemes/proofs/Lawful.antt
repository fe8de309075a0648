-- The two schemes of cost are lawful.
use Rattle.std.specs.Prelude.{ℕ, ◌+◌, ◌*◌, ◌≤◌, T}
use Rattle.std.proofs.Common.{mul-le-mul_left, arith}
use Rattle.std.proofs.lemmas.Bool.Decides.{nat_tests}
use Rattle.schemes.specs.Costs.{Lawful}
use Rattle.schemes.specs.Schemes.{by_area, rank, by_rank}
use Rattle.schemes.proofs.Ranks.{same_rank}

pub area_lawful : Lawful by_area
area_lawful = record {
  total = λ a b. grind (arith, nat_tests);
  transitive = λ a b c h k. grind (arith, nat_tests);
  same = λ a b h k. grind (arith, nat_tests);
  rising = λ k n h. let more : k.area * n ≤ k.area * (n + 1) = mul-le-mul_left k.area (omega arith) in grind (arith, nat_tests);
  left = λ a b c h. grind (arith, nat_tests);
  right = λ a b c h. grind (arith, nat_tests);
}

ranks_rise : (a b c d : ℕ) → a ≤ b → c ≤ d → T (by_rank.at_most (rank a c) (rank b d))
ranks_rise a b c d h k = grind (arith, nat_tests)

pub rank_lawful : Lawful by_rank
rank_lawful = record {
  total = λ a b. grind (arith, nat_tests);
  transitive = λ a b c h k. grind (arith, nat_tests);
  same = λ a b h k. same_rank a b (grind (arith, nat_tests)) (grind (arith, nat_tests));
  rising = λ k n h. ranks_rise (k.area * n) (k.area * (n + 1)) (k.draw * n) (k.draw * (n + 1)) (mul-le-mul_left k.area (omega arith)) (mul-le-mul_left k.draw (omega arith));
  left = λ a b c h. grind (arith, nat_tests);
  right = λ a b c h. grind (arith, nat_tests);
}
