use Rattle.std.proofs.Common.{◌≡◌, ◌+◌, ◌-◌, max, take, sum, ap, ◌∙◌, arith}
use Rattle.std.proofs.lemmas.List.Sums.{sum_by_more}
use Rattle.windows.specs.Counts.{tallied_floor}
use Rattle.windows.specs.Windows.{window_floor}
use Rattle.windows.proofs.Greatest.{greatest_taken, greatest_end}
use Rattle.windows.proofs.timing.Timing.raise_row.Goals as goal

pub overflow_sub-count : goal.overflow_sub-count
overflow_sub-count c =
    let ends = c.args.tally.now.ends in
    let here : c.loop-end.end ≡ c.loop-end.end - 1 + 1 = omega arith in
    omega (arith, c.loop-end.invariant.1, ap (λ n. sum (take n ends)) here, sum_by_more (λ n. n) ends (c.loop-end.end - 1) 0 (omega arith))

pub loop-end-preserved : goal.loop-end-preserved
loop-end-preserved c =
    let ends = c.args.tally.now.ends in
    let end = c.loop-end.end in
    let timing = c.args.self in
    let here : end ≡ end - 1 + 1 = omega arith in
    let count : c.loop-end.count ≡ sum (take (end - 1 + 1) ends) = c.loop-end.invariant.1 ∙ ap (λ n. sum (take n ends)) here in (
      omega arith,
      omega (arith, count, sum_by_more (λ n. n) ends (end - 1) 0 (omega arith)),
      greatest_taken (tallied_floor timing.latency timing.busy ends c.args.begin) c.args.begin end c.loop-end.most _ c.loop-end.invariant.2
          c.raise-most.result c.loop-end-test.true
          (c.raise-most.ensures ∙ ap (λ n. max c.loop-end.most (window_floor timing.latency timing.busy (end - 1 + 1 - c.args.begin) n)) count),
    )

pub returns : goal.returns
returns c =
    greatest_end (tallied_floor c.args.self.latency c.args.self.busy c.args.tally.now.ends c.args.begin)
    c.args.begin c.loop-end.end c.loop-end.most _ c.loop-end.invariant.2 c.loop-end-test.false
