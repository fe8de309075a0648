use Rattle.std.proofs.Common.{◌≡◌, rules}
use Rattle.std.specs.Iterator.Adapters.{zip_first, zip_second}
use Rattle.std.specs.Slice.Iter.{iter_rest}
use Rattle.rules.specs.Frames.{earliests, latests}
use Rattle.job.proofs.Zipping.{zipped_none}
use Rattle.job.proofs.framed.work_out.work_out.Goals as goal

pub loop-earliest-init : goal.loop-earliest-init
loop-earliest-init c =
    let first : iter_rest (zip_first c.into_iter-earliest-iterator.result) ≡ earliests c.args.tables.now = search rules in
    let second : iter_rest (zip_second c.into_iter-earliest-iterator.result) ≡ latests c.args.tables.now = search rules in
    ((tt, tt), tt, zipped_none c.args.tables.now c.clear.new.self.items _ _ c.clear.ensures first second)
