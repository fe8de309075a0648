use Rattle.std.proofs.Common.{refl}
use Rattle.cases.proofs.Framed.{all_framed}
use Rattle.cases.proofs.frame_rows.Goals as goal

pub returns : goal.returns
returns c = record { count = refl; hold = all_framed }
