-- The floor of Windows, from what its parts answer.
use Rattle.std.proofs.Common.{◌≡◌, ℕ, ◌+◌, ◌-◌, ◌*◌, max, Bool, cond, ◌&&◌, eqb, ltb, List, [], ◌∷◌, count_by, refl, sym, ap, ◌∙◌}
use Rattle.std.proofs.lemmas.List.Sums.{sum_by-cons}
use Rattle.rules.specs.declared.operation.Operation.{Operation}
use Rattle.rules.specs.Jobs.{Job, figure}
use Rattle.plan.specs.declared.slot.Slot.{Slot}
use Rattle.windows.specs.declared.stay.Stay.{Stay}
use Rattle.windows.specs.Counts.{held_floor, StandFor}
use Rattle.windows.specs.Windows.{Frame, frames, confined, of_kind, window_floor, over_windows, windows}
use Rattle.windows.proofs.Greatest.{over_same}

-- the definition, over steps t, latency l and busy time r
abbrev floor_by : ℕ → List Operation → List Frame → ℕ → ℕ → ℕ → ℕ
floor_by k os fs t l r =
    max (over_windows t (λ s e. window_floor l r (e + 1 - s) (confined k r s e os fs)))
    (cond (ltb 0 l && ltb l (2 * r)) (of_kind k os) 0)

module _ (j : Job) (p : List Slot) (k t l r : ℕ) (steps : t ≡ j.steps) (latency : l ≡ j.latency) (busy : r ≡ figure (λ kind. kind.busy) j.kinds k) (ts : List Stay) (most n : ℕ)
    (kept : StandFor k r t j.operations (frames j p) ts) (greatest : most ≡ over_windows t (held_floor l r ts)) (counted : n ≡ of_kind k j.operations) where
  pub windows_is : (b : Bool) → (ltb 0 l && ltb l (2 * r)) ≡ b → max most (cond b n 0) ≡ windows j p k
  windows_is b test =
      (λ i. max (same i) (cond (sym test i) (counted i) 0))
      ∙ (λ i. floor_by k j.operations (frames j p) (steps i) (latency i) (busy i))
    where
      same : most ≡ over_windows t (λ s e. window_floor l r (e + 1 - s) (confined k r s e j.operations (frames j p)))
      same = greatest ∙ over_same t _ _ (λ s e low high. ap (window_floor l r (e + 1 - s)) (kept s e low high))

pub of_kind_is : (k : ℕ) (os : List Operation) → of_kind k os ≡ count_by (λ o. eqb o.kind k) os
of_kind_is k [] = refl
of_kind_is k (o ∷ os) = ap (λ n. cond (eqb o.kind k) 1 0 + n) (of_kind_is k os) ∙ sym (sum_by-cons (λ o. cond (eqb o.kind k) 1 0) o os)
