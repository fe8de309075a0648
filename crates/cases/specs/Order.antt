-- The order of plans: the first operation where two differ decides, by the smaller start and then by the smaller unit.
use Rattle.std.specs.Prelude.{[], ◌∷◌}
use Rattle.plan.specs.Order.{Before}
use Rattle.cases.specs.Floors.{at}

pub record Ordered : Type 0 where
  pub by_start : Before (at 1 9 ∷ []) (at 2 1 ∷ [])
  pub not_by_unit : Before (at 2 1 ∷ []) (at 1 9 ∷ []) → ⊥
  pub then_by_unit : Before (at 3 1 ∷ []) (at 3 2 ∷ [])
  pub not_later : Before (at 3 2 ∷ []) (at 3 1 ∷ []) → ⊥
  -- the first operation where they differ, whatever follows
  pub first_difference : Before (at 1 1 ∷ at 2 1 ∷ at 9 9 ∷ []) (at 1 1 ∷ at 2 2 ∷ at 1 1 ∷ [])
  pub not_last : Before (at 1 1 ∷ at 2 2 ∷ at 1 1 ∷ []) (at 1 1 ∷ at 2 1 ∷ at 9 9 ∷ []) → ⊥
  pub not_itself : Before (at 1 1 ∷ at 2 2 ∷ []) (at 1 1 ∷ at 2 2 ∷ []) → ⊥
  -- slots come before what extends them
  pub extended : Before (at 1 1 ∷ []) (at 1 1 ∷ at 1 1 ∷ [])
  pub not_shortened : Before (at 1 1 ∷ at 1 1 ∷ []) (at 1 1 ∷ []) → ⊥
