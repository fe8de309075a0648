use Rattle.std.proofs.lemmas.Result.{err_from_is_err_and}
use Rattle.std.proofs.Common.{sym, subst}
use Rattle.rules.specs.Files.{loaded}
use Rattle.rules.specs.Jobs.{Valid}
use Rattle.rules.proofs.Encoded.{files_stand_for_edits}
use Rattle.rules.proofs.Outcomes.{became_wanted, stayed_refused}
use Rattle.rules.proofs.Reading.{files_are_read}
use Rattle.job.proofs.framed.Job.load.Goals as goal

pub returns-in_err-tables : goal.returns-in_err-tables
returns-in_err-tables c =
    let p = err_from_is_err_and c.from_residual.result c.from_residual.ensures.1 in
    record {
      exact = rw (p.1, p.2) (stayed_refused c.args.self.now (loaded c.args.file.now) _ c.in_err-tables.ensures.exact);
      was_valid = c.steps.ensures.valid;
      valid = c.steps.ensures.valid;
      read = files_are_read c.args.file.now;
      stands_for = files_stand_for_edits;
    }

pub returns : goal.returns
returns c =
    record {
      exact = became_wanted c.args.self.now (loaded c.args.file.now) c.in_ok-tables.tables c.of.result c.in_ok-tables.ensures.exact c.of.ensures;
      was_valid = c.steps.ensures.valid;
      valid = subst Valid (sym c.of.ensures) c.in_ok-tables.ensures.valid;
      read = files_are_read c.args.file.now;
      stands_for = files_stand_for_edits;
    }
