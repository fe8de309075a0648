-- Costs, under any scheme.
use Rattle.std.specs.Prelude.{◌≡◌, ℕ, suc, ◌+◌, ◌<◌, Bool, T, ◌⊎◌, List, [], ◌∷◌}
use Rattle.rules.specs.declared.kind.Kind.{Kind}
use Rattle.rules.specs.Jobs.{Job}
use Rattle.plan.specs.declared.slot.Slot.{Slot}
use Rattle.plan.specs.Units.{units}

-- what a scheme of cost means, over values of its own sort
pub record Meaning (V : Type 0) : Type 0 where
  pub nothing : V
  -- of so many units of a kind
  pub price : Kind → ℕ → V
  pub sum : V → V → V
  pub at_most : V → V → Bool

pub record Lawful {V : Type 0} (m : Meaning V) : Type 0 where
  pub total : (a b : V) → T (m.at_most a b) ⊎ T (m.at_most b a)
  pub transitive : (a b c : V) → T (m.at_most a b) → T (m.at_most b c) → T (m.at_most a c)
  pub same : (a b : V) → T (m.at_most a b) → T (m.at_most b a) → a ≡ b
  -- one unit more never costs less
  pub rising : (k : Kind) (n : ℕ) → n < 65535 → T (m.at_most (m.price k n) (m.price k (n + 1)))
  -- a sum keeps the comparison on either side
  pub left : (a b c : V) → T (m.at_most a b) → T (m.at_most (m.sum a c) (m.sum b c))
  pub right : (a b c : V) → T (m.at_most a b) → T (m.at_most (m.sum c a) (m.sum c b))

module _ {V : Type 0} (m : Meaning V) where
  -- `spent`, plus the price of each of the kinds, which are numbered from k on
  abbrev pub total_from : V → ℕ → List Kind → (ℕ → ℕ) → V
  total_from spent k [] count = spent
  total_from spent k (kind ∷ kinds) count = total_from (m.sum spent (m.price kind (count k))) (suc k) kinds count

  -- zero plus the price of kind 1, plus that of kind 2, and so on, where `count` says how many units there are of each
  abbrev pub total : Job → (ℕ → ℕ) → V
  total j count = total_from m.nothing 1 j.kinds count

  -- what a plan costs: every kind of the job counts, also with no units
  abbrev pub cost : Job → List Slot → V
  cost j p = total j (units j p)
