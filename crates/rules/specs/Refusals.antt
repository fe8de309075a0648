-- The number by which each refusal is known, and what a caller is told.
use Rattle.std.specs.Prelude.{ℕ, Bool, true, false, T, Ok, Err, Result}
use Rattle.rules.specs.declared.refusal.Refusal.{Refusal}
use Rattle.rules.specs.declared.refusal.Refusal.TheVariants.{
  FigureOutOfRange,
  LimitOutOfRange,
  AllowanceOutOfRange,
  UnknownLibraryUnit,
  NotAJobFile,
  TornRecord,
  UnknownRecord,
  ShortBuffer,
  TooManyKinds,
  TooManyOperations,
  UnknownKind,
  UnknownOperand,
  BusyBeyondLatency,
  NothingToSearch,
  UnknownOperation,
}
use Rattle.rules.specs.declared.refusal.FileRefusal.{FileRefusal}

abbrev pub number : Refusal → ℕ
number FigureOutOfRange = 1
number LimitOutOfRange = 2
number AllowanceOutOfRange = 3
number UnknownLibraryUnit = 4
number NotAJobFile = 5
number TornRecord = 6
number UnknownRecord = 7
number ShortBuffer = 8
number TooManyKinds = 9
number TooManyOperations = 10
number UnknownKind = 11
number UnknownOperand = 12
number BusyBeyondLatency = 13
number NothingToSearch = 14
number UnknownOperation = 15

-- an answer, with a refusal told by its number
abbrev pub told : {X : Type 0} → Result X Refusal → Result X ℕ
told (Ok x) = Ok x
told (Err why) = Err (number why)

-- the same of a file: the number and the offset
abbrev pub told_file : {X : Type 0} → Result X FileRefusal → Result X (ℕ × ℕ)
told_file (Ok x) = Ok x
told_file (Err why) = Err (number why.reason, why.offset)

-- go on where a test holds, with the fact; else refuse
abbrev pub where_holds : {X : Type 0} → (b : Bool) → Refusal → (T b → Result X ℕ) → Result X ℕ
where_holds true why go = go tt
where_holds false why go = Err (number why)
