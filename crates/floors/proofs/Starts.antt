-- A plan starts its operations inside the frames that its first slots leave.
use Rattle.std.specs.Prelude.{◌≡◌, ℕ, zero, suc, ◌≤◌, List, [], ◌∷◌, ◌++◌, ℤ, pos, ◌≤ℤ◌, Some, slice_index, slice_index_or}
use Rattle.std.proofs.Common.{subst, arith}
use Rattle.std.proofs.lemmas.Option.{none-some, same_Some, slice_get_within}
use Rattle.std.specs.List.{slice_get}
use Rattle.std.proofs.lemmas.Int.{ints}
use Rattle.rules.specs.Jobs.{Job, Valid}
use Rattle.rules.specs.Frames.{earliests, latests}
use Rattle.rules.proofs.Numbered.{nth_within}
use Rattle.plan.specs.declared.slot.Slot.{Slot}
use Rattle.plan.specs.Order.{Begins}
use Rattle.plan.specs.Plans.{Plan}
use Rattle.windows.specs.Windows.{Frame, frames_with, frames}
use Rattle.floors.proofs.Inside.{plan_inside}

abbrev pub StartsIn : Frame → Slot → Type 0
StartsIn f t = (f.0 ≤ t.start) × (pos t.start ≤ℤ f.1)

-- each slot starts inside the frame at its place
abbrev pub AllStartIn : List Frame → List Slot → Type 0
AllStartIn fs q = (i : ℕ) (f : Frame) (t : Slot) → slice_get fs i ≡ Some f → slice_get q i ≡ Some t → StartsIn f t

-- the same of a list of earliest and a list of latest starts
abbrev StartBetween : List ℕ → List ℤ → List Slot → Type 0
StartBetween es zs q = (i : ℕ) (t : Slot) → slice_get q i ≡ Some t → StartsIn (slice_index es i, slice_index_or zs i (pos 0)) t

starts_with : (p rest : List Slot) (es : List ℕ) (zs : List ℤ) → StartBetween es zs (p ++ rest) → AllStartIn (frames_with p es zs) (p ++ rest)
starts_with p rest [] zs own i f t e w = absurd (none-some f e)
starts_with p rest (a ∷ es) [] own i f t e w = absurd (none-some f e)
starts_with [] [] (a ∷ es) (z ∷ zs) own i f t e w = absurd (none-some t w)
starts_with [] (u ∷ rest) (a ∷ es) (z ∷ zs) own zero f t e w = subst (λ g. StartsIn g t) (same_Some (a, z) f e) (own 0 t w)
starts_with [] (u ∷ rest) (a ∷ es) (z ∷ zs) own (suc i) f t e w = starts_with [] rest es zs (λ m. own (suc m)) i f t e w
starts_with (u ∷ p) rest (a ∷ es) (z ∷ zs) own zero f t e w =
    let same : u ≡ t = same_Some u t w in
    subst (λ g. StartsIn g t) (same_Some (u.start, pos u.start) f e) (rw same (omega arith, omega (arith, ints)))
starts_with (u ∷ p) rest (a ∷ es) (z ∷ zs) own (suc i) f t e w = starts_with p rest es zs (λ m. own (suc m)) i f t e w

pub plan_starts_in : {j : Job} {q : List Slot} → Valid j → Plan j q → (p : List Slot) → Begins p q → AllStartIn (frames j p) q
plan_starts_in {j} {q} valid plan p b =
    subst (λ l. StartBetween (earliests j) (latests j) l → AllStartIn (frames j p) l) b.1
    (starts_with p b.0 (earliests j) (latests j)) own
  where
    own : StartBetween (earliests j) (latests j) q
    own i t e =
        let far = slice_get_within q i t e in
        let o = nth_within j.operations i (omega (arith, plan.whole)) in
        let inside = plan_inside valid plan (suc i) o.0 t (record { row = o.1; slot = e }) in
        (inside.begun, inside.ended)
