-- The units of a kind: more slots have no fewer, and slots that keep to the caps have no more than the cap.
use Rattle.std.specs.Prelude.{◌≡◌, ℕ, zero, suc, ◌≤◌, List, [], ◌∷◌, ◌++◌, ◌==◌}
use Rattle.std.proofs.Common.{zero-le, subst, arith}
use Rattle.std.proofs.lemmas.Option.{none-some}
use Rattle.std.proofs.lemmas.Bool.{eqb-true, cond_both}
use Rattle.std.proofs.lemmas.Bool.Decides.{nat_tests}
use Rattle.rules.specs.declared.operation.Operation.{Operation}
use Rattle.rules.specs.Jobs.{Job, figure, cap_of}
use Rattle.plan.specs.declared.slot.Slot.{Slot}
use Rattle.plan.specs.Order.{Begins}
use Rattle.plan.specs.Plans.{Stands}
use Rattle.plan.specs.Units.{highest, units}
use Rattle.floors.proofs.At.{At, at_here, at_later, at_stands}
use Rattle.floors.proofs.Figures.{figure_le}

-- no operation of the kind has a higher unit
pub unit_le_highest : (k : ℕ) (os : List Operation) (p : List Slot) (i : ℕ) (o : Operation) (s : Slot) → At os p i o s → o.kind ≡ k → s.unit ≤ highest k os p
unit_le_highest k [] p i o s w e = absurd (none-some o w.operation)
unit_le_highest k (q ∷ os) [] i o s w e = absurd (none-some s w.slot)
unit_le_highest k (q ∷ os) (t ∷ p) zero o s w e =
    let a : q.kind ≡ k = cc in
    let b : s.unit ≡ t.unit = cc in
    grind (arith, nat_tests)
unit_le_highest k (q ∷ os) (t ∷ p) (suc i) o s w e =
    let h = unit_le_highest k os p i o s (record { operation = w.operation; slot = w.slot }) e in
    grind (arith, nat_tests)

highest_append : (k : ℕ) (os : List Operation) (p rest : List Slot) → highest k os p ≤ highest k os (p ++ rest)
highest_append k [] p rest = zero-le
highest_append k (o ∷ os) [] rest = zero-le
highest_append k (o ∷ os) (s ∷ p) rest = let h = highest_append k os p rest in grind (arith, nat_tests)

pub units_extended : (j : Job) (p q : List Slot) (k : ℕ) → Begins p q → units j p k ≤ units j q k
units_extended j p q k b = subst (λ x. units j p k ≤ units j x k) b.1 (highest_append k j.operations p b.0)

highest_capped : (j : Job) (k : ℕ) (os : List Operation) (p : List Slot)
    → ((i : ℕ) (o : Operation) (s : Slot) → At os p i o s → s.unit ≤ cap_of j o) → highest k os p ≤ figure (λ kind. kind.cap) j.kinds k
highest_capped j k [] p h = zero-le
highest_capped j k (o ∷ os) [] h = zero-le
highest_capped j k (o ∷ os) (s ∷ p) h =
    let cap : ℕ → ℕ = figure (λ kind. kind.cap) j.kinds in
    let rest : highest k os p ≤ cap k = highest_capped j k os p (λ i q t w. h (suc i) q t (at_later w)) in
    let here : s.unit ≤ cap o.kind = h 0 o s at_here in
    cond_both (o.kind == k) _ _ (λ n. n ≤ cap k)
    (λ e. let same : s.unit ≤ cap k = subst (λ n. s.unit ≤ cap n) (eqb-true o.kind k e) here in omega arith) (λ _. rest)

pub units_capped : (j : Job) (p : List Slot) → ((n : ℕ) (o : Operation) (s : Slot) → Stands j p n o s → s.unit ≤ cap_of j o)
    → (k : ℕ) → units j p k ≤ figure (λ kind. kind.cap) j.kinds k
units_capped j p h k = highest_capped j k j.operations p (λ i o s w. h (suc i) o s (at_stands w))

pub cap_small : (j : Job) (k : ℕ) → figure (λ kind. kind.cap) j.kinds k ≤ 64
cap_small j k = figure_le 64 (λ kind. kind.cap) j.kinds k (λ kind. kind.few)
