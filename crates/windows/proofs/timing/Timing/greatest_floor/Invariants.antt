use Rattle.windows.specs.Counts.{listed}
use Rattle.windows.proofs.Rows.{Done}
use Rattle.windows.proofs.timing.Timing.greatest_floor.Given as goal

abbrev pub invariant-loop-begin : goal.invariant-loop-begin
invariant-loop-begin l =
    Done l.self.latency l.self.busy l.self.steps (listed l.stays) l.begin l.tally.ends l.most
