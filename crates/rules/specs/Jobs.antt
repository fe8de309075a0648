-- A job: what is to be planned. Kinds and operations are numbered from 1.
use Rattle.std.specs.Prelude.{◌≡◌, ℕ, zero, suc, ◌<◌, ◌≤◌, List, [], length, Some, None, Option}
use Rattle.std.specs.List.{slice_get}
use Rattle.std.specs.Option.{option_map_or}
use Rattle.rules.specs.declared.kind.Kind.{Kind}
use Rattle.rules.specs.declared.operation.Operation.{Operation}

pub record Job : Type 0 where
  pub kinds : List Kind
  pub operations : List Operation
  pub steps : ℕ
  pub latency : ℕ

-- a new job
abbrev pub fresh : Job
fresh = record { kinds = []; operations = []; steps = 1; latency = 0 }

-- what has the number n, counted from 1
abbrev pub numbered : {X : Type 0} → List X → ℕ → Option X
numbered xs zero = None
numbered xs (suc i) = slice_get xs i

-- a figure of the kind numbered k, and 0 where there is none
abbrev pub figure : (Kind → ℕ) → List Kind → ℕ → ℕ
figure f ks k = option_map_or f (numbered ks k) 0

abbrev pub duration_of : Job → Operation → ℕ
duration_of j o = figure (λ k. k.duration) j.kinds o.kind

abbrev pub busy_of : Job → Operation → ℕ
busy_of j o = figure (λ k. k.busy) j.kinds o.kind

abbrev pub cap_of : Job → Operation → ℕ
cap_of j o = figure (λ k. k.cap) j.kinds o.kind

-- The ranges that every job keeps; each kind keeps those of its figures by its type.
pub record Valid (j : Job) : Type 0 where
  pub few_kinds : length j.kinds ≤ 8
  pub few_operations : length j.operations ≤ 64
  pub some_steps : 1 ≤ j.steps
  pub few_steps : j.steps ≤ 64
  pub short_latency : j.latency ≤ 64
  -- where samples overlap, each unit is free again when the next sample comes
  pub restarts : (k : ℕ) (kind : Kind) → numbered j.kinds k ≡ Some kind → 0 < j.latency → kind.busy ≤ j.latency
  pub held_kind : (n : ℕ) (o : Operation) → numbered j.operations n ≡ Some o → (1 ≤ o.kind) × (o.kind ≤ length j.kinds)
  pub earlier_operands : (n : ℕ) (o : Operation) → numbered j.operations n ≡ Some o → (o.left < n) × (o.right < n)
