-- That a job is valid holds in one way at most, so it comes out of a truncation.

use mathlib.Core.HLevel.{×_prop}
use mathlib.Core.Logic.{∥∥₁_elim}
use native.Mathlib.Bridge.{le_prop}
use Rattle.rules.specs.Jobs.{Job, Valid}

valid_prop : (j : Job) → IsProp (Valid j)
valid_prop j x y = λ i. record {
  few_kinds = le_prop x.few_kinds y.few_kinds i;
  few_operations = le_prop x.few_operations y.few_operations i;
  some_steps = le_prop x.some_steps y.some_steps i;
  few_steps = le_prop x.few_steps y.few_steps i;
  short_latency = le_prop x.short_latency y.short_latency i;
  restarts = λ k kind e some. le_prop (x.restarts k kind e some) (y.restarts k kind e some) i;
  held_kind = λ n o e. ×_prop le_prop le_prop (x.held_kind n o e) (y.held_kind n o e) i;
  earlier_operands = λ n o e. ×_prop le_prop le_prop (x.earlier_operands n o e) (y.earlier_operands n o e) i;
}

pub valid_out : {j : Job} → ∥ Valid j ∥₁ → Valid j
valid_out {j} h = ∥∥₁_elim h (valid_prop j) (λ x. x)
