-- An operation and its slot by their place, counted from 0.
use Rattle.std.specs.Prelude.{◌≡◌, ℕ, suc, List, ◌∷◌, Some, refl}
use Rattle.std.specs.List.{slice_get}
use Rattle.rules.specs.declared.operation.Operation.{Operation}
use Rattle.rules.specs.Jobs.{Job}
use Rattle.plan.specs.declared.slot.Slot.{Slot}
use Rattle.plan.specs.Plans.{Stands}

-- at place i the operations have o and the slots have s
pub record At (os : List Operation) (p : List Slot) (i : ℕ) (o : Operation) (s : Slot) : Type 0 where
  pub operation : slice_get os i ≡ Some o
  pub slot : slice_get p i ≡ Some s

pub at_here : {os : List Operation} {p : List Slot} {o : Operation} {s : Slot} → At (o ∷ os) (s ∷ p) 0 o s
at_here = record { operation = refl; slot = refl }

pub at_later : {os : List Operation} {p : List Slot} {i : ℕ} {o q : Operation} {s t : Slot} → At os p i o s → At (q ∷ os) (t ∷ p) (suc i) o s
at_later w = record { operation = w.operation; slot = w.slot }

pub at_stands : {j : Job} {p : List Slot} {i : ℕ} {o : Operation} {s : Slot} → At j.operations p i o s → Stands j p (suc i) o s
at_stands w = record { row = w.operation; slot = w.slot }
