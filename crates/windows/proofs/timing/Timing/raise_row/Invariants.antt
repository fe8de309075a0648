use Rattle.std.proofs.Common.{◌≡◌, ℕ, ◌+◌, ◌-◌, ◌≤◌, max, take, sum}
use Rattle.windows.specs.Counts.{tallied_floor}
use Rattle.windows.specs.Windows.{greatest}
use Rattle.windows.proofs.timing.Timing.raise_row.Given as goal

abbrev pub invariant-loop-end : goal.invariant-loop-end
invariant-loop-end l =
    let floors : ℕ → ℕ = tallied_floor l.self.latency l.self.busy l.tally.ends l.begin in
    (l.begin ≤ l.end)
    × (l.count ≡ sum (take l.end l.tally.ends))
    × (max l.most (greatest floors l.begin (l.end - l.begin)) ≡ max l.floor (greatest floors l.begin (l.self.steps + 1 - l.begin)))
