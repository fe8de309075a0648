-- The bytes that stand for a list of edits.
use Rattle.std.specs.Prelude.{◌≡◌, ℕ, ◌+◌, ◌/◌, ◌%◌, ◌≤◌, List, [], ◌∷◌, ◌++◌, length, Ok, Err, Result}
use Rattle.rules.specs.declared.edit.Edit.{Edit}
use Rattle.rules.specs.declared.edit.Edit.TheVariants.{AddKind, AddLibraryKind, AddOperation, SetLimits}
use Rattle.rules.specs.Jobs.{Job, fresh}
use Rattle.rules.specs.Edits.{edited}
use Rattle.rules.specs.Files.{loaded}

-- a number of 16 bits before other bytes, the higher byte first
abbrev pub two_bytes : ℕ → List ℕ → List ℕ
two_bytes n rest = (n / 256) ∷ (n % 256) ∷ rest

-- the record of an edit: its length, its tag, its fields
abbrev pub record_of : Edit → List ℕ
record_of (AddKind f) =
    0 ∷ 8 ∷ 1 ∷ f.duration ∷ f.busy ∷ f.cap ∷ two_bytes f.area (two_bytes f.draw [])
record_of (AddOperation o) = 0 ∷ 4 ∷ 2 ∷ o.kind ∷ o.left ∷ o.right ∷ []
record_of (SetLimits t l) = 0 ∷ 3 ∷ 3 ∷ t ∷ l ∷ []
record_of (AddLibraryKind n c) = 0 ∷ 3 ∷ 4 ∷ n ∷ c ∷ []

abbrev pub records_of : List Edit → List ℕ
records_of [] = []
records_of (e ∷ es) = record_of e ++ records_of es

abbrev pub file_of : List Edit → List ℕ
file_of es = 1 ∷ records_of es

-- The edits one by one, the first of which has its record at an offset: the first refusal is told with its record's offset.
abbrev pub one_by_one : Job → ℕ → List Edit → Result Job (ℕ × ℕ)
one_by_one j at [] = Ok j
one_by_one j at (e ∷ es) =
    elim (edited j e) [ Err why ↦ Err (why, at) | Ok k ↦ one_by_one k (at + length (record_of e)) es ]

-- Loading the bytes that stand for edits is making the edits one by one on a new job.
abbrev pub FilesStandForEdits : Type 0
FilesStandForEdits = (es : List Edit) → length (file_of es) ≤ 4096 → loaded (file_of es) ≡ one_by_one fresh 1 es
