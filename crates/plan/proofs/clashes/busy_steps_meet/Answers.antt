use Rattle.std.proofs.Common.{ltb, ap}
use Rattle.std.proofs.lemmas.Bool.Decides.{Decides-at}
use Rattle.plan.specs.Distance.{distance}
use Rattle.plan.proofs.Meets.{meet_told}
use Rattle.plan.proofs.clashes.busy_steps_meet.Goals as goal

pub returns : goal.returns
returns c =
    Decides-at _ (ltb (distance c.args.latency c.args.a c.args.b) c.args.busy) (ap (λ d. ltb d c.args.busy) c.distance.ensures)
    (meet_told c.args.latency c.args.busy c.args.a c.args.b)
