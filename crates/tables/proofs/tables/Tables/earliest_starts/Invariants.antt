use Rattle.tables.proofs.EarliestLoop.{Told}
use Rattle.tables.proofs.tables.Tables.earliest_starts.Given as goal

abbrev pub invariant-loop-operation : goal.invariant-loop-operation
invariant-loop-operation l = Told l.self l.starts.items l.ready.items l.operation-index
