-- Frames, put together from the earliest and the latest starts.
use Rattle.std.proofs.Common.{◌≡◌, ℕ, ◌<◌, ◌⊎◌, inl, inr, List, [], ◌∷◌, ◌++◌, length, map, ℤ, sym, ap, ap₂, ◌∙◌, arith}
use Rattle.std.proofs.lemmas.List.{append-nil, append_assoc, length-append, length-map, map-append, nil_from_length}
use Rattle.rules.specs.declared.frame.Frame.{Frame}
use Rattle.rules.specs.Frames.{FramesOf, earliests, latests}
use Rattle.rules.specs.Jobs.{Job}
use Rattle.rules.proofs.Earliest.{earliests_length}
use Rattle.rules.proofs.Latest.{latests_length}

-- The frames so far, and the starts that are left.
pub record Zipped (j : Job) (fs : List Frame) (es : List ℕ) (zs : List ℤ) : Type 0 where
  pub earliest : map (λ f. f.earliest) fs ++ es ≡ earliests j
  pub latest : map (λ f. f.latest) fs ++ zs ≡ latests j
  pub even : length es ≡ length zs

pub zipped_none : (j : Job) (fs : List Frame) (es : List ℕ) (zs : List ℤ) → fs ≡ [] → es ≡ earliests j → zs ≡ latests j → Zipped j fs es zs
zipped_none j fs es zs none first second = record {
  earliest = ap₂ (λ gs xs. map (λ f. f.earliest) gs ++ xs) none first;
  latest = ap₂ (λ gs xs. map (λ f. f.latest) gs ++ xs) none second;
  even = ap length first ∙ earliests_length j [] j.operations ∙ sym (latests_length j 1 j.operations) ∙ sym (ap length second);
}

module _ {j : Job} {fs : List Frame} {es : List ℕ} {zs : List ℤ} (z : Zipped j fs es zs) where
  pub room : (f : Frame) (rest : List ℕ) → es ≡ f.earliest ∷ rest → length fs < length (earliests j)
  room f rest more = omega (arith, ap length z.earliest, length-append (map (λ f. f.earliest) fs) es, length-map fs (λ (f : Frame). f.earliest), ap length more)

  pub zipped_more : (f : Frame) (es' : List ℕ) (zs' : List ℤ) → es ≡ f.earliest ∷ es' → zs ≡ f.latest ∷ zs' → Zipped j (fs ++ (f ∷ [])) es' zs'
  zipped_more f es' zs' first second = record {
    earliest =
        ap (λ xs. xs ++ es') (map-append (λ (f : Frame). f.earliest) fs (f ∷ []))
        ∙ append_assoc (map (λ f. f.earliest) fs) (f.earliest ∷ []) es'
        ∙ ap (λ xs. map (λ f. f.earliest) fs ++ xs) (sym first)
        ∙ z.earliest;
    latest =
        ap (λ xs. xs ++ zs') (map-append (λ (f : Frame). f.latest) fs (f ∷ []))
        ∙ append_assoc (map (λ f. f.latest) fs) (f.latest ∷ []) zs'
        ∙ ap (λ xs. map (λ f. f.latest) fs ++ xs) (sym second)
        ∙ z.latest;
    even = omega (arith, z.even, ap length first, ap length second);
  }

  pub zipped_all : (es ≡ []) ⊎ (zs ≡ []) → FramesOf j fs
  zipped_all done = record {
    earliest =
        let none : es ≡ [] = nil_from_length es (both_empty done).0 in
        sym (append-nil (map (λ f. f.earliest) fs)) ∙ ap (λ xs. map (λ f. f.earliest) fs ++ xs) (sym none) ∙ z.earliest;
    latest =
        let none : zs ≡ [] = nil_from_length zs (both_empty done).1 in
        sym (append-nil (map (λ f. f.latest) fs)) ∙ ap (λ xs. map (λ f. f.latest) fs ++ xs) (sym none) ∙ z.latest;
  }
    where
      both_empty : (es ≡ []) ⊎ (zs ≡ []) → (length es ≡ 0) × (length zs ≡ 0)
      both_empty (inl none) = (ap length none, sym z.even ∙ ap length none)
      both_empty (inr none) = (z.even ∙ ap length none, ap length none)
