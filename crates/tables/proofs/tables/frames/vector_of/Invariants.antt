use Rattle.std.proofs.Common.{◌≡◌, take}
use Rattle.tables.proofs.tables.frames.vector_of.Given as goal

abbrev pub invariant-loop-start : goal.invariant-loop-start
invariant-loop-start l = l.vector.items ≡ take l.start-index l.starts
