-- The order of some slots.
use Rattle.std.proofs.Common.{refl, ap, inl, inr, ⊎_elim, arith}
use Rattle.cases.specs.Order.{Ordered}

pub ordered : Ordered
ordered = record {
  by_start = inl (inl (omega arith));
  not_by_unit = ⊎_elim (λ e. omega arith) (λ r. r.1);
  then_by_unit = inl (inr (refl, omega arith));
  not_later = ⊎_elim (λ e. omega arith) (λ r. r.1);
  first_difference = inr (refl, inl (inr (refl, omega arith)));
  not_last = ⊎_elim (λ e. omega arith) (λ r. ⊎_elim (λ e. omega arith) (λ q. omega (arith, ap (λ x. x.unit) q.0)) r.1);
  not_itself = ⊎_elim (λ e. omega arith) (λ r. ⊎_elim (λ e. omega arith) (λ q. q.1) r.1);
  extended = inr (refl, tt);
  not_shortened = ⊎_elim (λ e. omega arith) (λ r. r.1);
}
