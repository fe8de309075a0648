use Rattle.std.proofs.Common.{refl}
use Rattle.cases.proofs.Costs.{costed}
use Rattle.cases.proofs.Floored.{all_floored}
use Rattle.cases.proofs.Order.{ordered}
use Rattle.cases.proofs.Places.{places_told}
use Rattle.cases.proofs.floor_rows.Goals as goal

pub returns : goal.returns
returns c = record { count = refl; hold = all_floored; costed = costed; ordered = ordered; places = places_told }
