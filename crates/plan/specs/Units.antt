-- The units of a kind that slots take.
use Rattle.std.specs.Prelude.{ℕ, max, cond, List, [], ◌∷◌, ◌==◌}
use Rattle.rules.specs.declared.operation.Operation.{Operation}
use Rattle.rules.specs.Jobs.{Job}
use Rattle.plan.specs.declared.slot.Slot.{Slot}

-- the highest unit among the operations of kind k that have a slot, 0 if there are none
abbrev pub highest : ℕ → List Operation → List Slot → ℕ
highest k [] p = 0
highest k (o ∷ os) [] = 0
highest k (o ∷ os) (s ∷ p) = cond (o.kind == k) (max s.unit (highest k os p)) (highest k os p)

-- the units of kind k of a plan, or of the first slots of one
abbrev pub units : Job → List Slot → ℕ → ℕ
units j p k = highest k j.operations p
