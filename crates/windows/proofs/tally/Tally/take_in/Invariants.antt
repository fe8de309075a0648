use Rattle.std.proofs.Common.{◌≡◌, ℕ, ◌+◌, ◌-◌, ◌≤◌, length, take, sum}
use Rattle.windows.specs.Chains.{begin_at, number_of}
use Rattle.windows.specs.Counts.{listed, held, starting}
use Rattle.windows.proofs.tally.Tally.take_in.Given as goal

-- the stays along the chain from the next one on are left to count
abbrev pub invariant-loop-next : goal.invariant-loop-next
invariant-loop-next l =
    let n : ℕ = number_of l.next in
    (n ≤ length l.stays.linked.items)
    × (l.self.all + n ≤ 128)
    × (1 ≤ n → begin_at (listed l.stays) (n - 1) ≡ l.step)
    × ((e : ℕ) → e ≤ 64 → sum (take (e + 1) l.self.ends) + starting l.step e (take n (listed l.stays)) ≡ held l.step e (listed l.stays))

abbrev pub decreases-loop-next : goal.decreases-loop-next
decreases-loop-next l = number_of l.next
