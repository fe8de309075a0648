-- The frames of some small jobs.
use Rattle.std.specs.Prelude.{◌≡◌, ℕ, List, [], ◌∷◌, ℤ, pos, negsuc, Ok, Err, Result}
use Rattle.rules.specs.Changes.{Change, after}
use Rattle.rules.specs.Frames.{frame_of}
use Rattle.rules.specs.Jobs.{fresh}
use Rattle.cases.specs.Calls.{kind, row, limits}

-- after some calls on a new job, the number of an operation and its frame
pub record Row : Type 0 where
  pub before : List Change
  pub number : ℕ
  pub frame : Result (ℤ × ℤ) ℕ

abbrev framed : List Change → ℕ → ℤ → ℤ → Row
framed cs n a z = record { before = cs; number = n; frame = Ok (a, z) }

abbrev unknown : List Change → ℕ → Row
unknown cs n = record { before = cs; number = n; frame = Err 15 }

abbrev pub AllFramed : List Row → Type 0
AllFramed [] = Unit {0}
AllFramed (r ∷ rs) = (frame_of (after fresh r.before) r.number ≡ r.frame) × AllFramed rs

-- operation 2 uses operation 1, both of duration 2, in one step
abbrev short_of_steps : List Change
short_of_steps = kind 2 2 4 ∷ row 1 0 0 ∷ row 1 1 0 ∷ []

-- operation 2 uses operation 1 as its right operand only; a result takes longer than its unit is busy
abbrev by_the_right : List Change
by_the_right = kind 3 1 4 ∷ limits 9 0 ∷ row 1 0 0 ∷ row 1 0 1 ∷ []

-- operation 1, of duration 3, has two users of durations 1 and 2: the later one is the nearer
abbrev two_users : List Change
two_users = kind 3 3 4 ∷ kind 1 1 4 ∷ kind 2 2 4 ∷ limits 10 0 ∷ row 1 0 0 ∷ row 2 1 0 ∷ row 3 0 1 ∷ row 2 3 2 ∷ []

-- of the users of operation 1 the first is the nearest
abbrev several_users : List Change
several_users = kind 2 2 4 ∷ limits 10 0 ∷ row 1 0 0 ∷ row 1 1 0 ∷ row 1 2 1 ∷ row 1 0 1 ∷ []

abbrev pub frames : List Row
frames =
    framed short_of_steps 1 (pos 1) (negsuc 1) ∷
    framed short_of_steps 2 (pos 3) (pos 0) ∷
    unknown short_of_steps 0 ∷
    unknown short_of_steps 3 ∷
    unknown [] 1 ∷
    framed by_the_right 1 (pos 1) (pos 4) ∷
    framed by_the_right 2 (pos 4) (pos 7) ∷
    framed two_users 1 (pos 1) (pos 5) ∷
    framed two_users 2 (pos 4) (pos 9) ∷
    framed two_users 3 (pos 4) (pos 8) ∷
    framed two_users 4 (pos 6) (pos 10) ∷
    framed several_users 1 (pos 1) (pos 5) ∷
    framed several_users 4 (pos 3) (pos 9) ∷
    []
