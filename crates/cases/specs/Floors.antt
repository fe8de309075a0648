-- The floors of the bounds at places of some small jobs.
use Rattle.std.specs.Prelude.{◌≡◌, ℕ, List, [], ◌∷◌}
use Rattle.rules.specs.Changes.{Change, after}
use Rattle.rules.specs.Jobs.{fresh}
use Rattle.plan.specs.declared.slot.Slot.{Slot}
use Rattle.plan.specs.Units.{units}
use Rattle.windows.specs.Windows.{windows}
use Rattle.floors.specs.Floors.{Floor, greater}
use Rattle.cases.specs.Calls.{kind, row, limits, times}

-- a start and a unit
abbrev pub at : ℕ → ℕ → Slot
at c u = record { start = c; unit = u }

-- after some calls on a new job, with slots for its first operations: what Placed, Windows and Greater of both answer for a kind
pub record Row : Type 0 where
  pub before : List Change
  pub slots : List Slot
  pub kind : ℕ
  pub placed : ℕ
  pub windows : ℕ
  pub greater : ℕ

abbrev floors : List Change → List Slot → ℕ → ℕ → ℕ → ℕ → Row
floors cs p k a w g = record { before = cs; slots = p; kind = k; placed = a; windows = w; greater = g }

-- a bound that answers one number
abbrev always : ℕ → Floor
always n j p k = n

pub record Holds (r : Row) : Type 0 where
  pub by_placed : units (after fresh r.before) r.slots r.kind ≡ r.placed
  pub by_windows : windows (after fresh r.before) r.slots r.kind ≡ r.windows
  pub by_greater : greater units windows (after fresh r.before) r.slots r.kind ≡ r.greater
  pub turned : greater windows units (after fresh r.before) r.slots r.kind ≡ r.greater
  -- a third bound on top, larger than both and smaller
  pub piled : greater (greater units windows) (always 9) (after fresh r.before) r.slots r.kind ≡ 9
  pub kept : greater (greater units windows) (always 0) (after fresh r.before) r.slots r.kind ≡ r.greater

abbrev pub AllFloored : List Row → Type 0
AllFloored [] = Unit {0}
AllFloored (r ∷ rs) = Holds r × AllFloored rs

-- three operations, each busy for its two steps, by steps and latency
abbrev three : ℕ → ℕ → List Change
three t l = kind 2 2 4 ∷ limits t l ∷ times 3 (row 1 0 0)

-- two kinds, in 7 steps; the frames are 1 to 3, 1 to 3, 3 to 5, 1 to 7 and 4 to 6
abbrev mixed : List Change
mixed = kind 2 2 4 ∷ kind 1 1 3 ∷ limits 7 0 ∷ row 1 0 0 ∷ row 1 0 0 ∷ row 2 1 2 ∷ row 2 0 0 ∷ row 1 3 0 ∷ []

-- busy for 2 of 3 steps, a sample every l; the frames are 1 to 3, 1 to 7, 4 to 6 and 7 to 9
abbrev overlapping : ℕ → List Change
overlapping l = kind 3 2 4 ∷ kind 1 1 3 ∷ limits 9 l ∷ row 1 0 0 ∷ row 1 0 0 ∷ row 1 1 0 ∷ row 2 3 0 ∷ []

-- five operations and a sample every other step, the last of them to be done by step 3
abbrev crowded : List Change
crowded = kind 1 1 9 ∷ kind 5 1 9 ∷ limits 8 2 ∷ row 1 0 0 ∷ row 1 0 0 ∷ row 1 0 0 ∷ row 1 0 0 ∷ row 1 0 0 ∷ row 2 5 0 ∷ []

-- frames 1 to -2 and 3 to 0
abbrev short_of_steps : List Change
short_of_steps = kind 2 2 4 ∷ row 1 0 0 ∷ row 1 1 0 ∷ []

abbrev pub floor_rows : List Row
floor_rows =
    -- nothing placed
    floors (three 6 0) [] 1 0 1 1 ∷
    floors (three 6 3) [] 1 0 3 3 ∷
    floors (three 6 4) [] 1 0 2 2 ∷
    floors (three 5 0) [] 1 0 2 2 ∷
    floors mixed [] 1 0 1 1 ∷
    floors mixed [] 2 0 1 1 ∷
    floors (overlapping 4) [] 1 0 2 2 ∷
    floors (overlapping 3) [] 1 0 3 3 ∷
    floors crowded [] 1 0 3 3 ∷
    floors crowded [] 2 0 1 1 ∷
    floors short_of_steps [] 1 0 4 4 ∷
    -- some operations placed
    floors mixed (at 1 3 ∷ []) 1 3 1 3 ∷
    floors mixed (at 1 1 ∷ at 2 2 ∷ []) 1 2 2 2 ∷
    floors mixed (at 1 1 ∷ at 3 1 ∷ []) 1 1 1 1 ∷
    floors mixed (at 1 1 ∷ at 1 4 ∷ []) 2 0 1 1 ∷
    floors mixed (at 1 1 ∷ at 3 1 ∷ at 5 3 ∷ []) 2 3 1 3 ∷
    floors mixed (at 1 1 ∷ at 3 1 ∷ at 5 1 ∷ at 5 2 ∷ []) 2 2 2 2 ∷
    floors mixed (at 2 1 ∷ at 1 2 ∷ at 4 1 ∷ at 4 2 ∷ at 6 1 ∷ []) 1 2 2 2 ∷
    floors (overlapping 4) (at 1 1 ∷ at 3 1 ∷ []) 1 1 2 2 ∷
    floors (overlapping 4) (at 1 1 ∷ at 2 2 ∷ at 4 1 ∷ at 7 2 ∷ []) 2 2 1 2 ∷
    floors (overlapping 3) (at 1 4 ∷ []) 1 4 3 4 ∷
    floors crowded (at 2 1 ∷ at 2 1 ∷ []) 1 1 3 3 ∷
    -- a kind that the job does not have
    floors mixed (at 1 3 ∷ []) 3 0 0 0 ∷
    []
