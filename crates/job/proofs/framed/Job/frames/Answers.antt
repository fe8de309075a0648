use Rattle.std.proofs.Common.{length, sym, ap, subst, arith}
use Rattle.rules.specs.Frames.{Framed}
use Rattle.rules.specs.Jobs.{Valid}
use Rattle.job.proofs.Questions.{all_framed}
use Rattle.job.proofs.framed.Job.frames.Goals as goal

pub returns-clause-framed : goal.returns-clause-framed
returns-clause-framed c n some few =
    let inside = c.self.inside in
    let valid : Valid inside.tables = subst Valid (sym c.self.view_is) c.steps.ensures.valid in
    subst (λ j. Framed j n) c.self.view_is (all_framed inside.tables inside.frames.items c.self.invariant valid n some (omega (arith, ap length c.as_slice.ensures.value)))
