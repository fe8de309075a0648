-- What an edit makes of a job, and when it is refused. The edit and the job alone decide.
use Rattle.std.specs.Prelude.{◌≡◌, ℕ, Bool, ◌&&◌, ◌||◌, List, [], ◌∷◌, ◌++◌, length, Some, None, Ok, Err, Option, Result, ◌==◌, nat_le, nat_lt}
use Rattle.std.specs.List.{list_all}
use Rattle.std.proofs.Common.{lit≤}
use Rattle.rules.specs.declared.edit.Edit.{Edit}
use Rattle.rules.specs.declared.edit.Edit.TheVariants.{AddKind, AddLibraryKind, AddOperation, SetLimits}
use Rattle.rules.specs.declared.kind.Figures.{Figures}
use Rattle.rules.specs.declared.kind.Kind.{Kind}
use Rattle.rules.specs.declared.library.LibraryUnit.{LibraryUnit}
use Rattle.rules.specs.declared.operation.Operation.{Operation}
use Rattle.rules.specs.declared.refusal.Refusal.{Refusal}
use Rattle.rules.specs.declared.refusal.Refusal.TheVariants.{
  FigureOutOfRange,
  LimitOutOfRange,
  UnknownLibraryUnit,
  TooManyKinds,
  TooManyOperations,
  UnknownKind,
  UnknownOperand,
  BusyBeyondLatency,
}
use Rattle.rules.specs.Jobs.{Job, numbered}
use Rattle.rules.specs.Library.{house_library, with_cap}
use Rattle.rules.specs.Refusals.{number, told, where_holds}

-- the kind with these figures; areas and draws of 16 bits are always in range
abbrev pub kind_of : Figures → Result Kind ℕ
kind_of f =
    where_holds (nat_le 1 f.busy) FigureOutOfRange (λ some.
    where_holds (nat_le f.busy f.duration) FigureOutOfRange (λ within.
    where_holds (nat_le f.duration 8) FigureOutOfRange (λ short.
    where_holds (nat_le f.cap 64) FigureOutOfRange (λ few.
    where_holds (nat_le f.area 65535) FigureOutOfRange (λ area.
    where_holds (nat_le f.draw 65535) FigureOutOfRange (λ draw.
    Ok (record {
      duration = f.duration;
      busy = f.busy;
      cap = f.cap;
      area = f.area;
      draw = f.draw;
      some_busy = lit≤ some;
      busy_within = lit≤ within;
      short = lit≤ short;
      few = lit≤ few;
      area_range = lit≤ area;
      draw_range = lit≤ draw;
    })))))))

-- a unit of a library, with a cap, as a kind
abbrev pub kind_from : Option LibraryUnit → ℕ → Result Kind ℕ
kind_from None c = Err (number UnknownLibraryUnit)
kind_from (Some u) c = kind_of (with_cap u c)

-- at latency l a unit that takes the kind's operations is free again when the next sample comes
abbrev pub restarts : ℕ → Kind → Bool
restarts l k = l == 0 || nat_le k.busy l

abbrev pub all_restart : ℕ → List Kind → Bool
all_restart l ks = list_all (restarts l) ks

abbrev pub plus_kind : Job → Kind → Job
plus_kind j k = record { kinds = j.kinds ++ (k ∷ []); operations = j.operations; steps = j.steps; latency = j.latency }

abbrev pub plus_operation : Job → Operation → Job
plus_operation j o = record { kinds = j.kinds; operations = j.operations ++ (o ∷ []); steps = j.steps; latency = j.latency }

abbrev pub limited : Job → ℕ → ℕ → Job
limited j t l = record { kinds = j.kinds; operations = j.operations; steps = t; latency = l }

abbrev pub with_kind : Job → Result Kind ℕ → Result Job ℕ
with_kind j (Err why) = Err why
with_kind j (Ok k) =
    where_holds (nat_lt (length j.kinds) 8) TooManyKinds (λ _.
    where_holds (restarts j.latency k) BusyBeyondLatency (λ _.
    Ok (plus_kind j k)))

abbrev pub with_operation : Job → Operation → Result Job ℕ
with_operation j o =
    where_holds (nat_lt (length j.operations) 64) TooManyOperations (λ _.
    where_holds (nat_le 1 o.kind && nat_le o.kind (length j.kinds)) UnknownKind (λ _.
    where_holds (nat_le o.left (length j.operations) && nat_le o.right (length j.operations)) UnknownOperand (λ _.
    Ok (plus_operation j o))))

abbrev pub with_limits : Job → ℕ → ℕ → Result Job ℕ
with_limits j t l =
    where_holds ((nat_le 1 t && nat_le t 64) && nat_le l 64) LimitOutOfRange (λ _.
    where_holds (all_restart l j.kinds) BusyBeyondLatency (λ _.
    Ok (limited j t l)))

-- the job that an edit asks for, or the number of its refusal
abbrev pub edited : Job → Edit → Result Job ℕ
edited j (AddKind f) = with_kind j (kind_of f)
edited j (AddLibraryKind n c) = with_kind j (kind_from (numbered house_library n) c)
edited j (AddOperation o) = with_operation j o
edited j (SetLimits t l) = with_limits j t l

-- A call that was to make `wanted` of the job `old` answered r and left `now`: accepted, it left what was wanted; refused, it
-- told why, and left the job as it was.
abbrev pub Became : {E : Type 0} → Job → Result Job E → Result (Unit {0}) E → Job → Type 0
Became old (Ok j) r now = (r ≡ Ok tt) × (now ≡ j)
Became old (Err why) r now = (r ≡ Err why) × (now ≡ old)

-- an edit of the job `old` was answered r and left `now`
abbrev pub CarriedOut : Job → Edit → Result (Unit {0}) Refusal → Job → Type 0
CarriedOut old e r now = Became old (edited old e) (told r) now
