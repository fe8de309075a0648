-- Every row of the table of frames is computed.
use Rattle.std.proofs.Common.{refl}
use Rattle.cases.specs.Frames.{frames, AllFramed}

pub all_framed : AllFramed frames
all_framed = (refl, (refl, (refl, (refl, (refl, (refl, (refl, (refl, (refl, (refl, (refl, (refl, (refl, tt)))))))))))))
