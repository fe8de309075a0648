use Rattle.std.proofs.Common.{map}
use Rattle.rules.specs.declared.frame.Frame.{Frame}
use Rattle.windows.specs.Counts.{listed}
use Rattle.windows.specs.Windows.{frames_with}
use Rattle.windows.proofs.Gathering.{Gathers}
use Rattle.windows.proofs.gather.gather.Given as goal

abbrev pub invariant-loop-i : goal.invariant-loop-i
invariant-loop-i l =
    Gathers l.kind l.timing.busy l.timing.steps l.operation-items (frames_with l.draft.slots.now (map (λ (f : Frame). f.earliest) l.frames) (map (λ (f : Frame). f.latest) l.frames)) l.i (listed l.stays) l.operations
