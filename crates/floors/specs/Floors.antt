-- Floors: lower bounds on the units of a kind, over every plan that begins with the slots given.
use Rattle.std.specs.Prelude.{◌≡◌, ℕ, ◌≤◌, max, ◌⊎◌, List, [], length}
use Rattle.rules.specs.Jobs.{Job, Valid}
use Rattle.plan.specs.declared.slot.Slot.{Slot}
use Rattle.plan.specs.Order.{Begins}
use Rattle.plan.specs.Places.{Place}
use Rattle.plan.specs.Plans.{Plan}
use Rattle.plan.specs.Units.{units}

-- what a bound answers for a job, slots for its first operations, and a kind by its number
abbrev pub Floor : Type 0
Floor = Job → List Slot → ℕ → ℕ

-- what a lawful bound shows at one question: its floor is small, and every plan that begins so has at least that many units of the kind
pub record Sound (f : Floor) (j : Job) (p : List Slot) (k : ℕ) : Type 0 where
  pub small : f j p k ≤ 65535
  pub under : (q : List Slot) → Plan j q → Begins p q → f j p k ≤ units j q k

-- It shows this for every job within the ranges, nothing placed or any place, and every kind of the job.
abbrev pub LawfulFloor : Floor → Type 0
LawfulFloor f = (j : Job) (p : List Slot) (k : ℕ) → Valid j → (p ≡ []) ⊎ Place j p → 1 ≤ k → k ≤ length j.kinds → Sound f j p k

-- the larger of two floors
abbrev pub greater : Floor → Floor → Floor
greater f g j p k = max (f j p k) (g j p k)
