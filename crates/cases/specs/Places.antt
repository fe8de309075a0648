-- What is a place, and what is not.
use Rattle.std.specs.Prelude.{◌≤◌, List, [], ◌∷◌, length}
use Rattle.rules.specs.Changes.{after}
use Rattle.rules.specs.Jobs.{Job, Valid, fresh}
use Rattle.plan.specs.declared.slot.Slot.{Slot}
use Rattle.plan.specs.Order.{Begins}
use Rattle.plan.specs.Places.{Place}
use Rattle.plan.specs.Plans.{Plan}
use Rattle.cases.specs.Calls.{kind, row, limits}
use Rattle.cases.specs.Floors.{at}

-- operation 2 uses operation 1; the frames are 1 to 2 and 3 to 4
abbrev pub chained : Job
chained = after fresh (kind 2 2 4 ∷ limits 5 0 ∷ row 1 0 0 ∷ row 1 1 0 ∷ [])

-- the same in 3 steps: the frames are 1 to 0 and 3 to 2
abbrev pub hurried : Job
hurried = after fresh (kind 2 2 4 ∷ limits 3 0 ∷ row 1 0 0 ∷ row 1 1 0 ∷ [])

-- operation 2 is of a kind with no units
abbrev pub without_units : Job
without_units = after fresh (kind 2 2 4 ∷ kind 1 1 0 ∷ limits 5 0 ∷ row 1 0 0 ∷ row 2 0 0 ∷ [])

pub record PlacesTold : Type 0 where
  -- the first slots of every plan are a place
  pub beginnings : (j : Job) (p q : List Slot) → Valid j → Plan j q → Begins p q → 1 ≤ length p → Place j p
  -- so are slots that no plan begins with: operation 2 starts before operation 1 is done
  pub beside_plans : Place chained (at 2 4 ∷ at 3 1 ∷ [])
  -- before the frame, behind it, on no unit, above the cap
  pub too_early : Place chained (at 0 1 ∷ []) → ⊥
  pub too_late : Place chained (at 3 1 ∷ []) → ⊥
  pub before_frame : Place chained (at 1 1 ∷ at 2 1 ∷ []) → ⊥
  pub no_unit : Place chained (at 1 0 ∷ []) → ⊥
  pub over_cap : Place chained (at 1 5 ∷ []) → ⊥
  -- no operation, and one too many
  pub none : Place chained [] → ⊥
  pub too_long : Place chained (at 1 1 ∷ at 3 1 ∷ at 1 1 ∷ []) → ⊥
  -- a job where some operation has nothing to take has no places
  pub empty_frame : (p : List Slot) → Place hurried p → ⊥
  pub no_cap : (p : List Slot) → Place without_units p → ⊥
