-- Costs, computed.
use Rattle.std.proofs.Common.{refl}
use Rattle.cases.specs.Costs.{Costed}

pub costed : Costed
costed = record {
  in_order = refl;
  of_nothing = refl;
  begun = refl;
  area = refl;
  ranked = refl;
  area_price = refl;
  just_below = refl;
  full_price = (refl, refl);
  full_draw = (refl, refl);
  area_sum = refl;
  area_over = refl;
  full_sum = refl;
  draw_sum = (refl, refl);
  by_areas = (refl, refl);
  by_draws = (refl, refl);
  itself = (refl, refl);
}
