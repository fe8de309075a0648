use Rattle.std.specs.Iterator.Adapters.{zip_first, zip_second}
use Rattle.std.specs.Slice.Iter.{iter_rest}
use Rattle.job.proofs.Zipping.{Zipped}
use Rattle.job.proofs.framed.work_out.work_out.Given as goal

abbrev pub invariant-loop-earliest : goal.invariant-loop-earliest
invariant-loop-earliest l =
    (goal.iterator-loop-earliest).can_next l.earliest-iterator
    × (goal.iterator-loop-earliest).is_finite l.earliest-iterator
    × Zipped l.tables l.frames.items (iter_rest (zip_first l.earliest-iterator)) (iter_rest (zip_second l.earliest-iterator))
