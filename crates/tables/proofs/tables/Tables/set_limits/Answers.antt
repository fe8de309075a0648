use Rattle.std.proofs.Common.{sym, ap, ◌∙◌}
use Rattle.rules.proofs.Changing.{limits_set}
use Rattle.rules.proofs.Outcomes.{limits_too_short, limits_taken}
use Rattle.rules.specs.Edits.{all_restart}
use Rattle.tables.specs.Tables.{made_up}
use Rattle.tables.proofs.tables.Tables.set_limits.Goals as goal

pub returns-then-not-all_restart : goal.returns-then-not-all_restart
returns-then-not-all_restart c =
    limits_too_short c.args.self.now c.args.steps c.args.latency (sym c.if-not-in_range.ensures) (sym c.if-not-all_restart.ensures)

pub invariant_of-self : goal.invariant_of-self
invariant_of-self c =
    limits_set (made_up c.self.inside) c.args.steps c.args.latency c.self.invariant (sym c.if-not-in_range.ensures)
    (ap (λ j. all_restart c.args.latency j.kinds) c.self.view_is ∙ sym c.if-not-all_restart.ensures)

pub returns : goal.returns
returns c =
    rw (← c.self.view_is)
    (limits_taken (made_up c.self.inside) c.args.steps c.args.latency (sym c.if-not-in_range.ensures)
    (ap (λ j. all_restart c.args.latency j.kinds) c.self.view_is ∙ sym c.if-not-all_restart.ensures))
