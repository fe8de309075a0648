use Rattle.std.proofs.Common.{◌≡◌, ◌≤◌, max, length, get_or, ap, ap₂, ◌∙◌, arith}
use Rattle.rules.specs.Frames.{readable, earliest}
use Rattle.rules.proofs.Durations.{no_operation, duration_short}
use Rattle.tables.proofs.EarliestLoop.{operands_earlier, next_small, told_more}
use Rattle.tables.proofs.tables.Tables.earliest_starts.Goals as goal

pub overflow_add-start : goal.overflow_add-start
overflow_add-start c =
    let rows = c.operations-operation-items in
    let o = get_or rows.result.now c.loop-operation.operation-index no_operation in
    let small : earliest c.loop-operation.ready.items o ≤ 512 =
    rw rows.ensures.exact (next_small c.loop-operation.invariant no_operation (omega (arith, ap length rows.ensures.exact)) rows.ensures.valid) in
    let start : c.max-start.result ≡ earliest c.loop-operation.ready.items o =
    c.max-start.ensures ∙ ap₂ max (c.readable-left.ensures ∙ ap (λ r. readable r o.left) c.as_slice.ensures.value) (c.readable-right.ensures ∙ ap (λ r. readable r o.right) c.as_slice-in-loop-operation.ensures.value) in
    omega (arith, small, start, c.duration.ensures.exact, duration_short c.args.self.now o)

pub loop-operation-preserved : goal.loop-operation-preserved
loop-operation-preserved c =
    let rows = c.operations-operation-items in
    let i = c.loop-operation.operation-index in
    let o = get_or rows.result.now i no_operation in
    let earlier = operands_earlier c.args.self.now rows.result.now i no_operation rows.ensures.valid rows.ensures.exact (omega arith) in
    let start : c.max-start.result ≡ earliest c.loop-operation.ready.items o =
    c.max-start.ensures ∙ ap₂ max (c.readable-left.ensures ∙ ap (λ r. readable r o.left) c.as_slice.ensures.value) (c.readable-right.ensures ∙ ap (λ r. readable r o.right) c.as_slice-in-loop-operation.ensures.value) in
    rw (c.push.ensures.items, c.push-in-loop-operation.ensures.items, start, c.duration.ensures.exact, rows.ensures.exact)
    (told_more c.loop-operation.invariant no_operation (omega (arith, ap length rows.ensures.exact)) (rw (← rows.ensures.exact) earlier.0) (rw (← rows.ensures.exact) earlier.1))
