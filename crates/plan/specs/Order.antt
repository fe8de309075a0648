-- The order of plans, and of slots for the first operations alone.
use Rattle.std.specs.Prelude.{◌≡◌, ◌<◌, ◌⊎◌, List, [], ◌∷◌, ◌++◌}
use Rattle.plan.specs.declared.slot.Slot.{Slot}

-- q begins with the slots p
abbrev pub Begins : List Slot → List Slot → Type 0
Begins p q = (rest : List Slot) × (p ++ rest ≡ q)

-- the smaller start comes first, then the smaller unit
abbrev pub Earlier : Slot → Slot → Type 0
Earlier a b = (a.start < b.start) ⊎ ((a.start ≡ b.start) × (a.unit < b.unit))

-- Slots compare at the first operation where they differ, and come before what extends them.
abbrev pub Before : List Slot → List Slot → Type 0
Before p [] = ⊥
Before [] (b ∷ q) = Unit {0}
Before (a ∷ p) (b ∷ q) = Earlier a b ⊎ ((a ≡ b) × Before p q)
