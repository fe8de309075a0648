-- Plans: a start and a unit for each operation of a job.
use Rattle.std.specs.Prelude.{◌≡◌, ℕ, ◌+◌, ◌%◌, ◌<◌, ◌≤◌, ◌⊎◌, List, length, Some}
use Rattle.rules.specs.declared.operation.Operation.{Operation}
use Rattle.rules.specs.Jobs.{Job, numbered, duration_of, busy_of, cap_of}
use Rattle.plan.specs.declared.slot.Slot.{Slot}

-- ---- clashes

-- Steps x and y are the same to a unit where a sample begins every l steps: they are equal or, with l above 0, leave the same remainder by l.
abbrev pub SameStep : ℕ → ℕ → ℕ → Type 0
SameStep l x y = (x ≡ y) ⊎ ((0 < l) × (x % l ≡ y % l))

-- Of the r busy steps from a start at a, and of those from a start at b, some two are the same to a unit.
abbrev pub Meet : ℕ → ℕ → ℕ → ℕ → Type 0
Meet l r a b = (i : ℕ) × (k : ℕ) × (i < r) × (k < r) × SameStep l (a + i) (b + k)

-- Two operations clash, o at s and q at t: they are of one kind and on one unit, and their busy steps meet.
pub record Clash (j : Job) (o : Operation) (s : Slot) (q : Operation) (t : Slot) : Type 0 where
  pub one_kind : o.kind ≡ q.kind
  pub one_unit : s.unit ≡ t.unit
  pub meet : Meet j.latency (busy_of j o) s.start t.start

-- ---- plans

-- operation n of the job is o, and the slots p have it at s
pub record Stands (j : Job) (p : List Slot) (n : ℕ) (o : Operation) (s : Slot) : Type 0 where
  pub row : numbered j.operations n ≡ Some o
  pub slot : numbered p n ≡ Some s

-- a slot by itself: from the first step on, done by the last, on a unit within the cap of the operation's kind
pub record Allowed (j : Job) (o : Operation) (s : Slot) : Type 0 where
  pub begun : 1 ≤ s.start
  pub done : s.start + duration_of j o ≤ j.steps + 1
  pub counted : 1 ≤ s.unit
  pub capped : s.unit ≤ cap_of j o

-- operation m, if it has a slot, is done by a start
abbrev pub DoneBy : Job → List Slot → ℕ → ℕ → Type 0
DoneBy j p m start = (q : Operation) (t : Slot) → Stands j p m q t → t.start + duration_of j q ≤ start

-- no operation before number n clashes with o at s
abbrev pub Apart : Job → List Slot → ℕ → Operation → Slot → Type 0
Apart j p n o s = (m : ℕ) (q : Operation) (t : Slot) → Stands j p m q t → m < n → Clash j q t o s → ⊥

-- operation n, which is o at s, beside the others: its operands are done when it starts, and no earlier operation clashes with it
pub record Keeps (j : Job) (p : List Slot) (n : ℕ) (o : Operation) (s : Slot) : Type 0 where
  pub left : DoneBy j p o.left s.start
  pub right : DoneBy j p o.right s.start
  pub apart : Apart j p n o s

-- the same of operation n, if it has a slot
abbrev pub Kept : Job → List Slot → ℕ → Type 0
Kept j p n = (o : Operation) (s : Slot) → Stands j p n o s → Keeps j p n o s

-- operation n, which is o at s, is allowed by itself and keeps with the others
pub record Fits (j : Job) (p : List Slot) (n : ℕ) (o : Operation) (s : Slot) : Type 0 where
  pub allowed : Allowed j o s
  pub kept : Kept j p n

-- a slot for each operation of the job, in the order of their numbers, that is allowed by itself and keeps with the others
pub record Plan (j : Job) (p : List Slot) : Type 0 where
  pub whole : length p ≡ length j.operations
  pub allowed : (n : ℕ) (o : Operation) (s : Slot) → Stands j p n o s → Allowed j o s
  pub kept : (n : ℕ) → Kept j p n
