-- The figures of kinds by their number, and the range of durations.
use Rattle.std.proofs.Common.{◌≡◌, ℕ, zero, suc, ◌-◌, ◌<◌, ◌≤◌, ◌⊎◌, List, length, get_or, Some, None, Option, sym, refl, ap, ◌∙◌, arith}
use Rattle.std.proofs.lemmas.Option.{slice_get-get_or, slice_get_past}
use Rattle.std.specs.Option.{option_map_or}
use Rattle.rules.specs.declared.kind.Kind.{Kind}
use Rattle.rules.specs.declared.operation.Operation.{Operation}
use Rattle.rules.specs.Frames.{duration_at}
use Rattle.rules.specs.Jobs.{Job, numbered, figure, duration_of}

-- what the check takes for an element past a list's end
abbrev pub no_operation : Operation
no_operation = record { kind = 0; left = 0; right = 0 }

-- a figure read from the rows, and where no row has the number
pub figure_read : (f : Kind → ℕ) (ks : List Kind) (k : ℕ) (d : Kind) → (k ≡ 0 → ⊥) → k ≤ length ks → f (get_or ks (k - 1) d) ≡ figure f ks k
figure_read f ks zero d some few = absurd (some refl)
figure_read f ks (suc i) d some few =
    let e : suc i - 1 ≡ i = omega arith in
    ap (λ m. f (get_or ks m d)) e ∙ ap (λ o. option_map_or f o 0) (sym (slice_get-get_or ks i d (omega arith)))

pub figure_none : (f : Kind → ℕ) (ks : List Kind) (k : ℕ) → (k ≡ 0) ⊎ (length ks < k) → 0 ≡ figure f ks k
figure_none f ks zero none = refl
figure_none f ks (suc i) none = ap (λ o. option_map_or f o 0) (sym (slice_get_past ks i (omega arith)))

pub duration_short : (j : Job) (o : Operation) → duration_of j o ≤ 8
duration_short j o = go (numbered j.kinds o.kind)
  where
    go : (kind : Option Kind) → option_map_or (λ k. k.duration) kind 0 ≤ 8
    go (Some kind) = kind.short
    go None = omega arith

pub duration_at_short : (j : Job) (n : ℕ) → duration_at j n ≤ 8
duration_at_short j n = go (numbered j.operations n)
  where
    go : (row : Option Operation) → option_map_or (duration_of j) row 0 ≤ 8
    go (Some o) = duration_short j o
    go None = omega arith
