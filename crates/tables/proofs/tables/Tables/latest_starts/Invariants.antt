use Rattle.std.proofs.Common.{◌≡◌, ◌≤◌, length, drop}
use Rattle.std.specs.Iterator.Adapters.{enumerate_count, enumerate_source, rev_source}
use Rattle.std.specs.Slice.Iter.{iter_rest}
use Rattle.tables.proofs.LatestLoop.{Behind}
use Rattle.tables.proofs.tables.Tables.latest_starts.Given as goal

abbrev pub invariant-loop-i : goal.invariant-loop-i
invariant-loop-i l =
    (goal.iterator-loop-i).can_next l.i-iterator
    × (goal.iterator-loop-i).is_finite l.i-iterator
    × (enumerate_count (rev_source l.i-iterator) ≡ 0)
    × (length l.rows ≡ 64)
    × (l.first ≤ 64)
    × Behind l.self (iter_rest (enumerate_source (rev_source l.i-iterator))) (drop l.first l.rows)
