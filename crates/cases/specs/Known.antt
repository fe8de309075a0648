-- Refusals, the library and the records of a file, each with unlike values.
use Rattle.std.specs.Prelude.{◌≡◌, ℕ, List, [], ◌∷◌, map}
use Rattle.std.proofs.Common.{lit≤}
use Rattle.rules.specs.declared.kind.Kind.{Kind}
use Rattle.rules.specs.declared.refusal.Refusal.{Refusal}
use Rattle.rules.specs.declared.refusal.Refusal.TheVariants.{
  FigureOutOfRange,
  LimitOutOfRange,
  AllowanceOutOfRange,
  UnknownLibraryUnit,
  NotAJobFile,
  TornRecord,
  UnknownRecord,
  ShortBuffer,
  TooManyKinds,
  TooManyOperations,
  UnknownKind,
  UnknownOperand,
  BusyBeyondLatency,
  NothingToSearch,
  UnknownOperation,
}
use Rattle.rules.specs.Changes.{load, after}
use Rattle.rules.specs.Files.{operation}
use Rattle.rules.specs.Jobs.{Job, fresh}
use Rattle.rules.specs.Refusals.{number}
use Rattle.cases.specs.Calls.{kind, library, limits, row}

abbrev pub every_refusal : List Refusal
every_refusal =
    FigureOutOfRange ∷ LimitOutOfRange ∷ AllowanceOutOfRange ∷ UnknownLibraryUnit ∷ NotAJobFile ∷ TornRecord ∷ UnknownRecord ∷ ShortBuffer
    ∷ TooManyKinds ∷ TooManyOperations ∷ UnknownKind ∷ UnknownOperand ∷ BusyBeyondLatency ∷ NothingToSearch ∷ UnknownOperation ∷ []

-- the four units of the library with the caps 5, 6, 7 and 8
abbrev library_kinds : List Kind
library_kinds =
    record { duration = 1; busy = 1; cap = 5; area = 32; draw = 8; some_busy = lit≤ tt; busy_within = lit≤ tt; short = lit≤ tt; few = lit≤ tt; area_range = lit≤ tt; draw_range = lit≤ tt }
    ∷ record { duration = 1; busy = 1; cap = 6; area = 48; draw = 12; some_busy = lit≤ tt; busy_within = lit≤ tt; short = lit≤ tt; few = lit≤ tt; area_range = lit≤ tt; draw_range = lit≤ tt }
    ∷ record { duration = 2; busy = 2; cap = 7; area = 260; draw = 70; some_busy = lit≤ tt; busy_within = lit≤ tt; short = lit≤ tt; few = lit≤ tt; area_range = lit≤ tt; draw_range = lit≤ tt }
    ∷ record { duration = 2; busy = 1; cap = 8; area = 310; draw = 90; some_busy = lit≤ tt; busy_within = lit≤ tt; short = lit≤ tt; few = lit≤ tt; area_range = lit≤ tt; draw_range = lit≤ tt }
    ∷ []

-- one kind by figures, limits, and two operations
abbrev each_record : List ℕ
each_record =
    1 ∷ 0 ∷ 8 ∷ 1 ∷ 3 ∷ 2 ∷ 5 ∷ 1 ∷ 2 ∷ 3 ∷ 4 ∷ 0 ∷ 3 ∷ 3 ∷ 9 ∷ 7 ∷ 0 ∷ 4 ∷ 2 ∷ 1 ∷ 0 ∷ 0 ∷ 0 ∷ 4 ∷ 2 ∷ 1 ∷ 0 ∷ 1 ∷ []

abbrev each_job : Job
each_job = record {
  kinds = record { duration = 3; busy = 2; cap = 5; area = 258; draw = 772; some_busy = lit≤ tt; busy_within = lit≤ tt; short = lit≤ tt; few = lit≤ tt; area_range = lit≤ tt; draw_range = lit≤ tt } ∷ [];
  operations = operation 1 0 0 ∷ operation 1 0 1 ∷ [];
  steps = 9;
  latency = 7;
}

pub record Known : Type 0 where
  pub numbers : map number every_refusal ≡ 1 ∷ 2 ∷ 3 ∷ 4 ∷ 5 ∷ 6 ∷ 7 ∷ 8 ∷ 9 ∷ 10 ∷ 11 ∷ 12 ∷ 13 ∷ 14 ∷ 15 ∷ []
  pub new : (fresh.steps ≡ 1) × (fresh.latency ≡ 0)
  pub by_library : (after fresh (library 1 5 ∷ library 2 6 ∷ library 3 7 ∷ library 4 8 ∷ [])).kinds ≡ library_kinds
  pub by_file : after fresh (load each_record ∷ []) ≡ each_job
  -- the same with the units of the library, tag 4
  pub by_library_file : (after fresh (load (1 ∷ 0 ∷ 3 ∷ 4 ∷ 1 ∷ 5 ∷ 0 ∷ 3 ∷ 4 ∷ 2 ∷ 6 ∷ 0 ∷ 3 ∷ 4 ∷ 3 ∷ 7 ∷ 0 ∷ 3 ∷ 4 ∷ 4 ∷ 8 ∷ []) ∷ [])).kinds ≡ library_kinds
  -- an accepted load replaces the job, and a refused one leaves it, with none of the records before the fault
  pub loaded_over : after fresh (kind 1 1 1 ∷ row 1 0 0 ∷ limits 5 5 ∷ load each_record ∷ []) ≡ each_job
  pub refused_over : after fresh (load each_record ∷ load (1 ∷ 0 ∷ 3 ∷ 3 ∷ 6 ∷ 0 ∷ 0 ∷ 3 ∷ 3 ∷ 0 ∷ 0 ∷ []) ∷ []) ≡ each_job
  pub refused_edits : after fresh (load each_record ∷ kind 9 1 1 ∷ row 2 0 0 ∷ row 1 3 0 ∷ limits 0 0 ∷ limits 5 1 ∷ library 5 1 ∷ []) ≡ each_job
