-- What an operation owes the others, from the answers to its parts.
use Rattle.std.proofs.Common.{◌≡◌, ℕ, Bool, true, false, List, Decides, sym, ◌∙◌}
use Rattle.std.proofs.lemmas.Bool.{false≢true}
use Rattle.rules.specs.declared.operation.Operation.{Operation}
use Rattle.rules.specs.Jobs.{Job}
use Rattle.plan.specs.declared.slot.Slot.{Slot}
use Rattle.plan.specs.Plans.{Stands, DoneBy, Apart, Keeps, Kept}
use Rattle.plan.proofs.Standing.{stands_same}

pub false_true : {X : Type 0} → false ≡ true → X
false_true e = absurd (false≢true e)

-- what is owed is not given, so the whole is not
pub refused : {P Q : Type 0} (r : Bool) → Decides r P → r ≡ false → (Q → P) → Decides false Q
refused r told off owed = (false_true, λ q. false_true (sym off ∙ told.1 (owed q)))

pub told_apart : {j : Job} {p : List Slot} {n : ℕ} {o : Operation} {s : Slot} → Stands j p n o s → (r : Bool)
    → DoneBy j p o.left s.start → DoneBy j p o.right s.start → Decides r (Apart j p n o s) → Decides r (Kept j p n)
told_apart {j} {p} {n} {o} {s} here r left right told = (
  λ on q t w. stands_same (λ x y. Keeps j p n x y) here w (record { left = left; right = right; apart = told.0 on }),
  λ kept. told.1 (kept o s here).apart,
)
