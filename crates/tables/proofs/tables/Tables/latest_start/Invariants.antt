use Rattle.std.proofs.Common.{◌≡◌}
use Rattle.std.specs.Iterator.Adapters.{zip_first, zip_second}
use Rattle.std.specs.Slice.Iter.{iter_rest}
use Rattle.rules.specs.Frames.{before_users, last_start}
use Rattle.rules.specs.Jobs.{duration_of}
use Rattle.tables.proofs.LatestLoop.{Within}
use Rattle.tables.proofs.tables.Tables.latest_start.Given as goal

abbrev pub invariant-loop-user : goal.invariant-loop-user
invariant-loop-user l =
    let d = duration_of l.self l.fn.operation in
    (goal.iterator-loop-user).can_next l.user-iterator
    × (goal.iterator-loop-user).is_finite l.user-iterator
    × Within 512 (iter_rest (zip_second l.user-iterator))
    × (before_users l.number d l.latest (iter_rest (zip_first l.user-iterator)) (iter_rest (zip_second l.user-iterator))
    ≡ before_users l.number d (last_start l.self d) l.later l.starts)
