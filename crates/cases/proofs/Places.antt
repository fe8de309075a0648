-- Places, from the rules.
use Rattle.std.proofs.Common.{◌≡◌, ℕ, zero, suc, List, [], ◌∷◌, Some, refl, subst, arith}
use Rattle.std.proofs.lemmas.Option.{none-some, same_Some}
use Rattle.std.proofs.lemmas.Int.{ints}
use Rattle.rules.specs.declared.operation.Operation.{Operation}
use Rattle.rules.specs.Jobs.{numbered}
use Rattle.plan.specs.declared.slot.Slot.{Slot}
use Rattle.plan.specs.Places.{Place, Choosable, Inside}
use Rattle.plan.specs.Plans.{Stands}
use Rattle.floors.proofs.Inside.{plan_place}
use Rattle.cases.specs.Floors.{at}
use Rattle.cases.specs.Places.{chained, PlacesTold}

-- a fact of the two operations of the job, each by its number
by_number : (P : ℕ → Operation → Type 0) → P 1 (record { kind = 1; left = 0; right = 0 }) → P 2 (record { kind = 1; left = 1; right = 0 }) → (n : ℕ) (o : Operation) → numbered chained.operations n ≡ Some o → P n o
by_number P one two zero o e = absurd (none-some o e)
by_number P one two (suc zero) o e = subst (P 1) (same_Some _ o e) one
by_number P one two (suc (suc zero)) o e = subst (P 2) (same_Some _ o e) two
by_number P one two (suc (suc (suc n))) o e = absurd (none-some o e)

-- both slots are inside their frames
inside : (n : ℕ) (o : Operation) (s : Slot) → Stands chained (at 2 4 ∷ at 3 1 ∷ []) n o s → Inside chained n o s
inside zero o s w = absurd (none-some o w.row)
inside (suc zero) o s w =
    subst (λ x. Inside chained 1 x s) (same_Some _ o w.row) (subst (Inside chained 1 (record { kind = 1; left = 0; right = 0 })) (same_Some _ s w.slot)
    (record { begun = omega arith; ended = omega (arith, ints); counted = omega arith; capped = omega arith }))
inside (suc (suc zero)) o s w =
    subst (λ x. Inside chained 2 x s) (same_Some _ o w.row) (subst (Inside chained 2 (record { kind = 1; left = 1; right = 0 })) (same_Some _ s w.slot)
    (record { begun = omega arith; ended = omega (arith, ints); counted = omega arith; capped = omega arith }))
inside (suc (suc (suc n))) o s w = absurd (none-some o w.row)

beside : Place chained (at 2 4 ∷ at 3 1 ∷ [])
beside = record {
  some = omega arith;
  few = omega arith;
  open_job = by_number (Choosable chained) (record { start = omega (arith, ints); unit = omega arith }) (record { start = omega (arith, ints); unit = omega arith });
  inside = inside;
}

-- the first and the second operation, at given slots
first : {s : Slot} {p : List Slot} → Stands chained (s ∷ p) 1 (record { kind = 1; left = 0; right = 0 }) s
first = record { row = refl; slot = refl }

second : {s t : Slot} {p : List Slot} → Stands chained (s ∷ t ∷ p) 2 (record { kind = 1; left = 1; right = 0 }) t
second = record { row = refl; slot = refl }

pub places_told : PlacesTold
places_told = record {
  beginnings = λ j p q valid plan begins some. plan_place valid plan p begins some;
  beside_plans = beside;
  too_early = λ p. omega (arith, (p.inside 1 _ _ first).begun);
  too_late = λ p. omega (arith, ints, (p.inside 1 _ _ first).ended);
  before_frame = λ p. omega (arith, (p.inside 2 _ _ second).begun);
  no_unit = λ p. omega (arith, (p.inside 1 _ _ first).counted);
  over_cap = λ p. omega (arith, (p.inside 1 _ _ first).capped);
  none = λ p. omega (arith, p.some);
  too_long = λ p. omega (arith, p.few);
  empty_frame = λ p h. omega (arith, ints, (h.open_job 1 _ refl).start);
  no_cap = λ p h. omega (arith, (h.open_job 2 _ refl).unit);
}
