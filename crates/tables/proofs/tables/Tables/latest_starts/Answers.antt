use Rattle.std.proofs.Common.{◌≡◌, ◌+◌, ◌-◌, ◌≤◌, ◌∷◌, length, take, drop, to_z, of_z, w16, SFits, ap₂, ◌∙◌, sym, arith, rules}
use Rattle.std.specs.Iterator.Adapters.{enumerate_count, enumerate_source, rev_source}
use Rattle.std.specs.Slice.Iter.{iter_rest}
use Rattle.std.proofs.lemmas.Int.{to_z-of_z}
use Rattle.std.proofs.lemmas.List.{length-drop, length-set, take_all}
use Rattle.rules.specs.Frames.{latests_from}
use Rattle.tables.proofs.LatestLoop.{fewer, behind_more, drop_put}
use Rattle.tables.proofs.tables.Tables.latest_starts.Goals as goal

pub overflow_sub-first : goal.overflow_sub-first
overflow_sub-first c =
    let room = fewer c.loop-i.invariant.5 _ _ c.in-Some.ensures.steps.1.0 in
    omega (arith, room, length-drop c.loop-i.first c.loop-i.rows, c.loop-i.invariant.3, c.operations-operations.ensures.valid.few_operations)

pub loop-i-preserved : goal.loop-i-preserved
loop-i-preserved c =
    let room = fewer c.loop-i.invariant.5 _ _ c.in-Some.ensures.steps.1.0 in
    let some : 1 ≤ c.loop-i.first = omega (arith, room, length-drop c.loop-i.first c.loop-i.rows, c.loop-i.invariant.3, c.operations-operations.ensures.valid.few_operations) in
    let before = iter_rest (enumerate_source (rev_source c.next.new.self)) in
    let z = to_z w16 (of_z w16 c.latest_start-start.result) in
    let count : enumerate_count (rev_source c.next.new.self) ≡ 0 = search rules in
    let fits : SFits w16 c.latest_start-start.result = search rules in
    let ops = c.operations-operations in
    let i = c.in-Some.i in
    let at : i ≡ length before = search rules in
    let known : take (64 - c.loop-i.first) (drop c.loop-i.first c.loop-i.rows) ≡ drop c.loop-i.first c.loop-i.rows =
    take_all (64 - c.loop-i.first) _ (omega (arith, length-drop c.loop-i.first c.loop-i.rows, c.loop-i.invariant.3)) in
    let later : take (length ops.result.now - (i + 1)) (drop (i + 1) ops.result.now) ≡ drop (length before + 1) c.args.self.now.operations =
    take_all (length ops.result.now - (i + 1)) _ (omega (arith, length-drop (i + 1) ops.result.now)) ∙ ap₂ (λ n os. drop (n + 1) os) at ops.ensures.exact in (
      (tt, tt, search (rules, arith)),
      tt,
      count,
      length-set c.loop-i.rows (c.loop-i.first - 1) z ∙ c.loop-i.invariant.3,
      omega (arith, c.loop-i.invariant.4),
      rw (drop_put c.loop-i.rows c.loop-i.first z some (omega (arith, c.loop-i.invariant.3, c.loop-i.invariant.4)))
          (behind_more c.loop-i.invariant.5 before _ c.in-Some.ensures.steps.1.0 z
          (ap₂ (λ x xs. x ∷ xs) (to_z-of_z w16 _ fits) (sym known)
          ∙ c.latest_start-start.ensures
          ∙ ap₂ (λ n os. latests_from c.args.self.now (n + 1) (c.in-Some.operation.now ∷ os)) at later)),
    )
