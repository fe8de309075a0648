-- Lists of changes, and the jobs that they make.
use Rattle.std.specs.Prelude.{◌≡◌, ℕ, List, [], ◌∷◌, Ok, Err, Result}
use Rattle.rules.specs.declared.edit.Edit.{Edit}
use Rattle.rules.specs.Jobs.{Job, Valid, fresh}
use Rattle.rules.specs.Edits.{edited}
use Rattle.rules.specs.Files.{loaded}

-- a call that changes the job
pub data Change : Type 0 where
  edit : Edit → Change
  load : List ℕ → Change

-- what was wanted, or the old job where that is refused
abbrev pub unless_refused : {E : Type 0} → Job → Result Job E → Job
unless_refused old (Ok j) = j
unless_refused old (Err why) = old

abbrev pub changed : Job → Change → Job
changed j (edit e) = unless_refused j (edited j e)
changed j (load bytes) = unless_refused j (loaded bytes)

-- the job after a list of changes, refused ones included
abbrev pub after : Job → List Change → Job
after j [] = j
after j (c ∷ cs) = after (changed j c) cs

-- The jobs that calls make are exactly those within the ranges.
pub record RangesAreExact : Type 0 where
  pub within : (cs : List Change) → Valid (after fresh cs)
  pub all_made : (j : Job) → Valid j → (cs : List Change) × (after fresh cs ≡ j)
