-- The house library: units that a kind can be taken from, by number.
use Rattle.std.specs.Prelude.{ℕ, List, [], ◌∷◌}
use Rattle.rules.specs.declared.library.LibraryUnit.{LibraryUnit}
use Rattle.rules.specs.declared.kind.Figures.{Figures}

abbrev unit : ℕ → ℕ → ℕ → ℕ → LibraryUnit
unit d r a w = record { duration = d; busy = r; area = a; draw = w }

-- duration, busy time, area and draw of an adder, an ALU, a multiplier and a pipelined multiplier
abbrev pub house_library : List LibraryUnit
house_library = unit 1 1 32 8 ∷ unit 1 1 48 12 ∷ unit 2 2 260 70 ∷ unit 2 1 310 90 ∷ []

abbrev pub with_cap : LibraryUnit → ℕ → Figures
with_cap u c = record { duration = u.duration; busy = u.busy; cap = c; area = u.area; draw = u.draw }
