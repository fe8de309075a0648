use Rattle.std.proofs.Common.{◌≤◌, inl, inr, arith}
use Rattle.std.proofs.lemmas.Int.{ints}
use Rattle.windows.proofs.Framing.{Ends, stay_keeps}
use Rattle.windows.proofs.stay.Stay.of.Goals as goal
use Rattle.windows.proofs.stay.Stay.of.Goals.{then-free-gt1, else-free-gt1}

pub returns : goal.returns
returns c =
    let ends : Ends c.args.frame.latest c.args.timing.busy c.if-free-gt1.end =
    elim c.if-free-gt1.branch [
      | then-free-gt1 w ↦ inl (omega (arith, ints, w.end-is))
      | else-free-gt1 w ↦ inr (omega (arith, ints), w.end-is)
    ] in
    let soon : c.if-free-gt1.end ≤ c.args.timing.steps =
    elim c.if-free-gt1.branch [
      | then-free-gt1 w ↦ omega (arith, ints, w.end-is)
      | else-free-gt1 w ↦ omega (arith, w.end-is)
    ] in
    stay_keeps (c.args.frame.earliest, c.args.frame.latest) c.args.timing.busy c.args.timing.steps c.min-begin.result c.if-free-gt1.end c.min-begin.ensures ends soon
