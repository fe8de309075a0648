-- The slots of the operations that pass a test.
use Rattle.std.specs.Prelude.{◌≡◌, ℕ, zero, suc, ◌<◌, Bool, true, cond, List, [], ◌∷◌, length, slice_index_or}
use Rattle.std.proofs.Common.{arith}
use Rattle.std.specs.List.{AllByRecursion}
use Rattle.std.proofs.lemmas.Bool.{cond_both}
use Rattle.std.proofs.ByRecursion.{All-get_or}
use Rattle.rules.specs.declared.operation.Operation.{Operation}
use Rattle.plan.specs.declared.slot.Slot.{Slot}
use Rattle.floors.proofs.At.{At, at_here, at_later}

-- of each two elements, the earlier in the list first
abbrev pub Pairs : {X : Type 0} → (X → X → Type 0) → List X → Type 0
Pairs R [] = Unit {0}
Pairs R (x ∷ xs) = AllByRecursion (R x) xs × Pairs R xs

pub pairs_getD : {X : Type 0} (R : X → X → Type 0) (xs : List X) (a b : ℕ) (d : X) → Pairs R xs → a < b → b < length xs → R (slice_index_or xs a d) (slice_index_or xs b d)
pairs_getD R [] a b d h l m = absurd (omega arith)
pairs_getD R (x ∷ xs) a zero d h l m = absurd (omega arith)
pairs_getD R (x ∷ xs) zero (suc b) d h l m = All-get_or (R x) xs b d (omega arith) h.0
pairs_getD R (x ∷ xs) (suc a) (suc b) d h l m = pairs_getD R xs a b d h.1 (omega arith) (omega arith)

module _ (test : Operation → Slot → Bool) where
  abbrev pub selected : List Operation → List Slot → List Slot
  selected [] p = []
  selected (o ∷ os) [] = []
  selected (o ∷ os) (s ∷ p) = cond (test o s) (s ∷ selected os p) (selected os p)

  pub all_selected : (P : Slot → Type 0) (os : List Operation) (p : List Slot)
      → ((i : ℕ) (o : Operation) (s : Slot) → At os p i o s → test o s ≡ true → P s) → AllByRecursion P (selected os p)
  all_selected P [] p h = tt
  all_selected P (o ∷ os) [] h = tt
  all_selected P (o ∷ os) (s ∷ p) h =
      let rest : AllByRecursion P (selected os p) = all_selected P os p (λ i q t w. h (suc i) q t (at_later w)) in
      cond_both (test o s) (s ∷ selected os p) (selected os p) (AllByRecursion P) (λ e. (h 0 o s at_here e, rest)) (λ _. rest)

  pub pairs_selected : (R : Slot → Slot → Type 0) (os : List Operation) (p : List Slot)
      → ((i k : ℕ) (o q : Operation) (s t : Slot) → i < k → At os p i o s → At os p k q t → test o s ≡ true → test q t ≡ true → R s t)
      → Pairs R (selected os p)
  pairs_selected R [] p h = tt
  pairs_selected R (o ∷ os) [] h = tt
  pairs_selected R (o ∷ os) (s ∷ p) h =
      let rest : Pairs R (selected os p) =
      pairs_selected R os p (λ i k a b c d l v w. h (suc i) (suc k) a b c d (omega arith) (at_later v) (at_later w)) in
      cond_both (test o s) (s ∷ selected os p) (selected os p) (Pairs R)
      (λ e. (all_selected (R s) os p (λ k q t w. h 0 (suc k) o q s t (omega arith) at_here (at_later w) e), rest))
      (λ _. rest)
