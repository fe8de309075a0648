-- Ranks are the same if their areas and draws are.
use Rattle.std.specs.Prelude.{◌≡◌, ◌≤◌}
use Rattle.std.proofs.Math.Bridge.{le_prop}
use mathlib.Core.HLevel.{is_prop→PathP, →_prop}
use Rattle.schemes.specs.declared.rank.Rank.{Rank}

pub same_rank : (a b : Rank) → a.area ≡ b.area → a.draw ≡ b.draw → a ≡ b
same_rank a b e f = λ i. record {
  area = e i;
  draw = f i;
  area_range = is_prop→PathP (λ i. e i ≤ 1000000000) (λ i. le_prop) a.area_range b.area_range i;
  draw_range = is_prop→PathP (λ i. f i ≤ 1000000000) (λ i. le_prop) a.draw_range b.draw_range i;
  full = is_prop→PathP (λ i. 1000000000 ≤ e i → 1000000000 ≤ f i) (λ i. →_prop le_prop) a.full b.full i;
}
