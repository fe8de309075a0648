use Rattle.windows.specs.Counts.{listed}
use Rattle.std.proofs.Common.{◌≡◌, ◌*◌, max, true, false, ◌&&◌, ltb, refl, ◌∙◌, arith}
use Rattle.std.proofs.lemmas.Bool.Decides.{nat_tests}
use Rattle.windows.proofs.Joining.{windows_is}
use Rattle.windows.proofs.floor.windows_floor.Goals as goal
use Rattle.windows.proofs.floor.windows_floor.Goals.{else-timing-gt0-via-then-timing-gt0+else-timing, else-timing-gt0-via-else-timing-gt0}

pub returns-then-timing : goal.returns-then-timing
returns-then-timing c =
    c.max.ensures
    ∙ windows_is c.args.draft.job.now c.args.draft.slots.now c.args.kind _ _ _ c.steps.ensures.exact c.latency.ensures.exact c.busy_time.ensures
    (listed c.gather-gathered.result.stays) _ _ c.gather-gathered.ensures.kept c.greatest_floor-most.ensures c.gather-gathered.ensures.operations true (grind (arith, nat_tests))

pub returns : goal.returns
returns c =
    let most = c.greatest_floor-most in
    let shared : (ltb 0 c.latency.result && ltb c.latency.result (2 * c.busy_time.result)) ≡ false =
    elim c.else-timing-gt0.branch [
      | else-timing-gt0-via-then-timing-gt0+else-timing w ↦ grind (arith, nat_tests)
      | else-timing-gt0-via-else-timing-gt0 w ↦ grind (arith, nat_tests)
    ] in
    let same : most.result ≡ max most.result 0 = omega arith in
    same
    ∙ windows_is c.args.draft.job.now c.args.draft.slots.now c.args.kind _ _ _ c.steps.ensures.exact c.latency.ensures.exact c.busy_time.ensures
    (listed c.gather-gathered.result.stays) _ _ c.gather-gathered.ensures.kept most.ensures refl false shared
