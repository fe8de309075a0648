use Rattle.std.proofs.Common.{◌≡◌, true, eqb, length, get_or, pos, refl, ap, ◌∙◌, arith}
use Rattle.std.proofs.lemmas.Bool.Decides.{nat_tests}
use Rattle.std.proofs.lemmas.List.{length-map}
use Rattle.rules.specs.declared.frame.Frame.{Frame}
use Rattle.rules.proofs.Durations.{no_operation}
use Rattle.windows.specs.Counts.{listed}
use Rattle.windows.specs.Windows.{frames_with, confined, of_kind}
use Rattle.windows.proofs.Framing.{frames_whole}
use Rattle.windows.proofs.Gathering.{gathers_none, gathers_other, gathers_none_of, gathers_stay, all_counted, gathers_all}
use Rattle.windows.proofs.gather.gather.Goals as goal
use Rattle.windows.proofs.gather.gather.Goals.{in-Some, in_default}

pub loop-i-init : goal.loop-i-init
loop-i-init c = gathers_none _ _ _ _ _ (listed c.new-stays.result) c.new-stays.ensures

pub overflow_add-operations : goal.overflow_add-operations
overflow_add-operations c =
    omega (arith, ap length c.operations-operation-items.ensures.exact, c.operations-operation-items.ensures.valid.few_operations, c.loop-i.invariant.few)

pub loop-i-preserved-then-operation-kind : goal.loop-i-preserved-then-operation-kind
loop-i-preserved-then-operation-kind c =
    let whole = frames_whole c.args.draft.job.now c.args.draft.slots.now c.operations-operation-items.ensures.exact c.frames-frames.ensures.earliest c.frames-frames.ensures.latest in
    gathers_other c.loop-i.invariant c.loop-i-test.true whole.2 no_operation _ (0, pos 0) refl (grind (arith, nat_tests))

pub frame-requires : goal.frame-requires
frame-requires c =
    let whole = frames_whole c.args.draft.job.now c.args.draft.slots.now c.operations-operation-items.ensures.exact c.frames-frames.ensures.earliest c.frames-frames.ensures.latest in
    omega (arith, whole.0, length-map c.frames-frames.result.now (λ (f : Frame). f.earliest))

pub loop-i-preserved : goal.loop-i-preserved
loop-i-preserved c =
    let whole = frames_whole c.args.draft.job.now c.args.draft.slots.now c.operations-operation-items.ensures.exact c.frames-frames.ensures.earliest c.frames-frames.ensures.latest in
    let is : eqb (get_or c.operations-operation-items.result.now c.loop-i.i no_operation).kind c.args.kind ≡ true = grind (arith, nat_tests) in
    elim c.match-of.branch [
      | in-Some w ↦
          rw (ap listed w.stays-is ∙ w.push.ensures)
          (gathers_stay c.loop-i.invariant c.loop-i-test.true whole.2 no_operation _ (0, pos 0) c.frame.ensures is w.in-Some.stay w.in-Some.ensures)
      | in_default w ↦
          rw w.stays-is (gathers_none_of c.loop-i.invariant c.loop-i-test.true whole.2 no_operation _ (0, pos 0) c.frame.ensures is w.in_default.ensures)
    ]

pub returns : goal.returns
returns c =
    record {
      kept = λ s e low high.
          gathers_all c.loop-i.invariant c.loop-i-test.false s e low high
          ∙ (λ i. confined c.args.kind c.args.timing.busy s e (c.operations-operation-items.ensures.exact i) (frames_with c.args.draft.slots.now (c.frames-frames.ensures.earliest i) (c.frames-frames.ensures.latest i)));
      inside = c.loop-i.invariant.inside;
      operations = all_counted c.loop-i.invariant c.loop-i-test.false ∙ ap (of_kind c.args.kind) c.operations-operation-items.ensures.exact;
    }
