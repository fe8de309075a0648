-- Places: a start inside its frame and a unit within its cap for each of the first operations.
use Rattle.std.specs.Prelude.{◌≡◌, ℕ, ◌≤◌, List, length, pos, ◌≤ℤ◌, Some}
use Rattle.rules.specs.declared.operation.Operation.{Operation}
use Rattle.rules.specs.Frames.{earliest_start, latest_start}
use Rattle.rules.specs.Jobs.{Job, numbered, cap_of}
use Rattle.plan.specs.declared.slot.Slot.{Slot}
use Rattle.plan.specs.Plans.{Stands}

-- operation n, which is o, has a start inside its frame and a unit within its cap to take
pub record Choosable (j : Job) (n : ℕ) (o : Operation) : Type 0 where
  pub start : pos (earliest_start j n) ≤ℤ latest_start j n
  pub unit : 1 ≤ cap_of j o

-- s is one of these
pub record Inside (j : Job) (n : ℕ) (o : Operation) (s : Slot) : Type 0 where
  pub begun : earliest_start j n ≤ s.start
  pub ended : pos s.start ≤ℤ latest_start j n
  pub counted : 1 ≤ s.unit
  pub capped : s.unit ≤ cap_of j o

-- slots for the first operations, for one at least; a job has none where some operation has nothing to take
pub record Place (j : Job) (p : List Slot) : Type 0 where
  pub some : 1 ≤ length p
  pub few : length p ≤ length j.operations
  pub open_job : (n : ℕ) (o : Operation) → numbered j.operations n ≡ Some o → Choosable j n o
  pub inside : (n : ℕ) (o : Operation) (s : Slot) → Stands j p n o s → Inside j n o s
