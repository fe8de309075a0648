use Rattle.std.proofs.Common.{refl}
use Rattle.cases.proofs.Answered.{all_answered}
use Rattle.cases.proofs.answer_rows.Goals as goal

pub returns : goal.returns
returns c = record { count = refl; hold = all_answered }
