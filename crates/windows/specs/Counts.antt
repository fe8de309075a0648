-- Counts of the stays that a window holds.
use Rattle.std.specs.Prelude.{◌≡◌, ℕ, ◌+◌, ◌-◌, ◌≤◌, Bool, false, ◌&&◌, List, take, Some, None, sum, count_by, Option, ◌==◌, nat_le}
use Rattle.std.specs.List.{AllByRecursion}
use Rattle.rules.specs.declared.operation.Operation.{Operation}
use Rattle.windows.specs.declared.stay.Stay.{Stay}
use Rattle.windows.specs.declared.stays.Stays.{Stays}
use Rattle.windows.specs.Chains.{stays_of}
use Rattle.windows.specs.Windows.{Frame, kept_within, confined, window_floor}

-- the stays, in the order in which they were added
abbrev pub listed : Stays → List Stay
listed stays = stays_of stays.linked.items

-- a stay lies within steps s to e
abbrev pub lies_within : ℕ → ℕ → Stay → Bool
lies_within s e t = nat_le s t.begin && nat_le t.end e

-- how many stays lie within steps s to e
abbrev pub held : ℕ → ℕ → List Stay → ℕ
held s e ts = count_by (lies_within s e) ts

-- how many of those that lie within steps s to e begin at s
abbrev pub starting : ℕ → ℕ → List Stay → ℕ
starting s e ts = count_by (λ t. (t.begin == s) && nat_le t.end e) ts

-- `ends` has how many of the stays that begin at s or later end at each step: up to step e they add up to those within steps s to e
abbrev pub Tallies : ℕ → List Stay → List ℕ → Type 0
Tallies s ts ends = (e : ℕ) → e ≤ 64 → sum (take (e + 1) ends) ≡ held s e ts

-- the floor of the window s to e that holds these stays
abbrev pub held_floor : ℕ → ℕ → List Stay → ℕ → ℕ → ℕ
held_floor l r ts s e = window_floor l r (e + 1 - s) (held s e ts)

-- the same from a tally of those that begin at s or later
abbrev pub tallied_floor : ℕ → ℕ → List ℕ → ℕ → ℕ → ℕ
tallied_floor l r ends s e = window_floor l r (e + 1 - s) (sum (take (e + 1) ends))

-- no stay begins or ends after step t
abbrev pub Inside : ℕ → List Stay → Type 0
Inside t ts = AllByRecursion (λ x. (x.begin ≤ t) × (x.end ≤ t)) ts

-- in windows within steps 1 to t, a stay stands for an operation with the frame f that is busy for r steps; one that has no stay is kept within none
abbrev pub Keeps : Frame → ℕ → ℕ → Option Stay → Type 0
Keeps f r t None = (s e : ℕ) → e ≤ t → kept_within r s e f ≡ false
Keeps f r t (Some x) = (x.begin ≤ t) × (x.end ≤ t) × ((s e : ℕ) → s ≤ t → kept_within r s e f ≡ lies_within s e x)

-- in windows within steps 1 to t, the stays stand for those operations of kind k, with the frames fs and busy for r steps
abbrev pub StandFor : ℕ → ℕ → ℕ → List Operation → List Frame → List Stay → Type 0
StandFor k r t os fs ts = (s e : ℕ) → s ≤ t → e ≤ t → held s e ts ≡ confined k r s e os fs
