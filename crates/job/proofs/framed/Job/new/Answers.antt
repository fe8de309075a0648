use Rattle.std.proofs.Common.{◌∙◌, sym, subst}
use Rattle.rules.specs.Jobs.{Valid}
use Rattle.rules.proofs.Making.{ranges_are_exact}
use Rattle.job.proofs.framed.Job.new.Goals as goal

pub returns : goal.returns
returns c = record {
  fresh = c.of.ensures ∙ c.new.ensures.fresh;
  valid = subst Valid (sym c.of.ensures) c.new.ensures.valid;
  ranges = ranges_are_exact;
}
