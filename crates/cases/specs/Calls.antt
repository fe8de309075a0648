-- Short names for the calls of the tables, and what a call is answered.
use Rattle.std.specs.Prelude.{ℕ, zero, suc, List, [], ◌∷◌, Ok, Err, Result}
use Rattle.rules.specs.declared.edit.Edit.TheVariants.{AddKind, AddLibraryKind, AddOperation, SetLimits}
use Rattle.rules.specs.Changes.{Change, edit, load}
use Rattle.rules.specs.Edits.{edited}
use Rattle.rules.specs.Files.{figures, loaded, operation}
use Rattle.rules.specs.Jobs.{Job}

-- a kind by duration, busy time and cap
abbrev pub kind : ℕ → ℕ → ℕ → Change
kind d r c = edit (AddKind (figures d r c 10 5))

abbrev pub library : ℕ → ℕ → Change
library n c = edit (AddLibraryKind n c)

-- an operation by its kind and operands
abbrev pub row : ℕ → ℕ → ℕ → Change
row k a b = edit (AddOperation (operation k a b))

-- steps and latency
abbrev pub limits : ℕ → ℕ → Change
limits t l = edit (SetLimits t l)

abbrev pub times : {X : Type 0} → ℕ → X → List X
times zero x = []
times (suc n) x = x ∷ times n x

pub data Answer : Type 0 where
  accepted : Answer
  refused : ℕ → Answer
  refused_at : ℕ → ℕ → Answer

abbrev pub edit_answer : Result Job ℕ → Answer
edit_answer (Ok j) = accepted
edit_answer (Err why) = refused why

abbrev pub load_answer : Result Job (ℕ × ℕ) → Answer
load_answer (Ok j) = accepted
load_answer (Err why) = refused_at why.0 why.1

abbrev pub answered : Job → Change → Answer
answered j (edit e) = edit_answer (edited j e)
answered j (load bytes) = load_answer (loaded bytes)
