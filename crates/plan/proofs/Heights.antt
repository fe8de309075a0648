-- The highest unit, one operation on, and of the operations and their slots in one list.
use Rattle.std.proofs.Common.{◌≡◌, ℕ, ◌+◌, ◌<◌, ◌≤◌, min, max, cond, ◌==◌, Bool, true, false, ◌⊎◌, List, [], ◌∷◌, length, get_or, take, drop, fold, refl, ap, ◌∙◌, ap₂, ⊎_elim, arith}
use Rattle.std.specs.List.{zip}
use Rattle.std.proofs.lemmas.List.{drop_more, drop_all, take_all}
use Rattle.std.proofs.lemmas.Slice.Zip.{length-zip}
use Rattle.rules.specs.declared.operation.Operation.{Operation}
use Rattle.plan.specs.declared.slot.Slot.{Slot}
use Rattle.plan.specs.Units.{highest}
use Rattle.plan.proofs.Cutting.{zip_take}

pub highest_more : (k : ℕ) (os : List Operation) (p : List Slot) (i : ℕ) (d : Operation) (e : Slot) → i < length os → i < length p
    → highest k (drop i os) (drop i p) ≡ highest k (get_or os i d ∷ drop (i + 1) os) (get_or p i e ∷ drop (i + 1) p)
highest_more k os p i d e held placed = ap₂ (highest k) (drop_more os i d held) (drop_more p i e placed)

highest_none : (k : ℕ) (os : List Operation) → highest k os [] ≡ 0
highest_none k [] = refl
highest_none k (o ∷ os) = refl

pub highest_all : (k : ℕ) (os : List Operation) (p : List Slot) (i : ℕ) → (length os ≤ i) ⊎ (length p ≤ i) → highest k (drop i os) (drop i p) ≡ 0
highest_all k os p i past =
    ⊎_elim
    (λ h. ap (λ xs. highest k xs (drop i p)) (drop_all i os h))
    (λ h. ap (highest k (drop i os)) (drop_all i p h) ∙ highest_none k (drop i os))
    past

-- ---- both lists cut to one length, and the kind asked of each

-- the higher of a unit and of that of an operation of kind k, at its slot
abbrev pub higher : ℕ → ℕ → Operation × Slot → ℕ
higher k h x = cond (x.0.kind == k) (max h x.1.unit) h

higher_from : (k h : ℕ) (os : List Operation) (p : List Slot) → fold (higher k) h (zip os p) ≡ max h (highest k os p)
higher_from k h [] p = omega arith
higher_from k h (o ∷ os) [] = omega arith
higher_from k h (o ∷ os) (s ∷ p) = by (o.kind == k) (λ g. higher_from k g os p)
  where
    by : (b : Bool) → ((g : ℕ) → fold (higher k) g (zip os p) ≡ max g (highest k os p))
        → fold (higher k) (cond b (max h s.unit) h) (zip os p) ≡ max h (cond b (max s.unit (highest k os p)) (highest k os p))
    by true more = more (max h s.unit) ∙ omega arith
    by false more = more h

pub highest_cut : (k n : ℕ) (os : List Operation) (p : List Slot) → n ≡ min (length os) (length p) → fold (higher k) 0 (zip (take n os) (take n p)) ≡ highest k os p
highest_cut k n os p cut =
    ap (fold (higher k) 0) (zip_take n os p ∙ take_all n (zip os p) (omega (arith, length-zip os p))) ∙ higher_from k 0 os p ∙ omega arith
