-- The figures of a kind.
use Rattle.std.specs.Prelude.{◌≡◌, ℕ, zero, suc, ◌≤◌, List, length, Some, None, Option}
use Rattle.std.proofs.Common.{zero-le, ap, arith}
use Rattle.std.specs.Option.{option_map_or}
use Rattle.rules.specs.declared.kind.Kind.{Kind}
use Rattle.rules.specs.Jobs.{numbered, figure}
use Rattle.rules.proofs.Numbered.{nth_within}

-- what no kind has more of, the kind numbered k has no more of
pub figure_le : (b : ℕ) (f : Kind → ℕ) (ks : List Kind) (k : ℕ) → ((kind : Kind) → f kind ≤ b) → figure f ks k ≤ b
figure_le b f ks k each = go (numbered ks k)
  where
    go : (o : Option Kind) → option_map_or f o 0 ≤ b
    go (Some kind) = each kind
    go None = zero-le

pub figure_at : (f : Kind → ℕ) (ks : List Kind) (k : ℕ) (kind : Kind) → numbered ks k ≡ Some kind → figure f ks k ≡ f kind
figure_at f ks k kind e = ap (λ o. option_map_or f o 0) e

-- a kind of the job
pub held : (ks : List Kind) (k : ℕ) → 1 ≤ k → k ≤ length ks → (kind : Kind) × (numbered ks k ≡ Some kind)
held ks zero some few = absurd (omega arith)
held ks (suc k) some few = nth_within ks k few
