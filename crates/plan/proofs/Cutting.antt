-- The operations and their slots, both cut to one length.
use Rattle.std.proofs.Common.{◌≡◌, ℕ, zero, suc, min, List, [], ◌∷◌, length, take, refl, ap, ◌∙◌, arith}
use Rattle.std.specs.List.{zip}
use Rattle.std.proofs.lemmas.List.{take_min}
use Rattle.std.proofs.lemmas.Slice.Zip.{length-zip}
use Rattle.rules.specs.declared.operation.Operation.{Operation}
use Rattle.plan.specs.declared.slot.Slot.{Slot}

pub zip_take : (n : ℕ) (os : List Operation) (p : List Slot) → zip (take n os) (take n p) ≡ take n (zip os p)
zip_take zero os p = refl
zip_take (suc n) [] p = refl
zip_take (suc n) (o ∷ os) [] = refl
zip_take (suc n) (o ∷ os) (s ∷ p) = ap (λ xs. (o, s) ∷ xs) (zip_take n os p)

-- a length past the end of one of them cuts nothing more
pub zip_earlier : (n m : ℕ) (os : List Operation) (p : List Slot) → m ≡ min (min n (length os)) (length p) → zip (take m os) (take m p) ≡ take n (zip os p)
zip_earlier n m os p cut =
    let short : m ≡ min n (length (zip os p)) = omega (arith, length-zip os p) in
    zip_take m os p ∙ ap (λ k. take k (zip os p)) short ∙ take_min n (zip os p)
