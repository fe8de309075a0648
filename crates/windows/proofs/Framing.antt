-- The frames of the operations, one by one, and the stay that a frame gives.
use Rattle.std.proofs.Common.{◌≡◌, ℕ, zero, suc, ◌+◌, ◌<◌, ◌≤◌, min, ◌&&◌, leb, ◌⊎◌, List, [], ◌∷◌, length, get_or, ℤ, pos, ◌+ℤ◌, ◌≤ℤ◌, sym, refl, ap, ◌∙◌, ap₂, inl, inr, arith}
use lib.Signed.{le_z}
use Rattle.std.proofs.lemmas.Int.{ints}
use Rattle.std.proofs.lemmas.Bool.Decides.{nat_tests}
use Rattle.rules.specs.declared.operation.Operation.{Operation}
use Rattle.rules.specs.Frames.{earliests, latests}
use Rattle.rules.specs.Jobs.{Job}
use Rattle.rules.proofs.Earliest.{earliests_length}
use Rattle.rules.proofs.Latest.{latests_length}
use Rattle.plan.specs.declared.slot.Slot.{Slot}
use Rattle.windows.specs.Windows.{Frame, frames_with, kept_within}

frames_length : (p : List Slot) (es : List ℕ) (zs : List ℤ) → length es ≡ length zs → length (frames_with p es zs) ≡ length es
frames_length p [] zs same = refl
frames_length p (a ∷ es) [] same = absurd (omega arith)
frames_length [] (a ∷ es) (z ∷ zs) same = ap suc (frames_length [] es zs (omega arith))
frames_length (s ∷ p) (a ∷ es) (z ∷ zs) same = ap suc (frames_length p es zs (omega arith))

-- one for each operation
pub frames_whole : (j : Job) (p : List Slot) {os : List Operation} {es : List ℕ} {zs : List ℤ} → os ≡ j.operations → es ≡ earliests j → zs ≡ latests j
    → (length es ≡ length os) × (length zs ≡ length os) × (length (frames_with p es zs) ≡ length os)
frames_whole j p {os} {es} {zs} operations earliest latest =
    let a : length es ≡ length os = ap length earliest ∙ earliests_length j [] j.operations ∙ sym (ap length operations) in
    let z : length zs ≡ length os = ap length latest ∙ latests_length j 1 j.operations ∙ sym (ap length operations) in
    (a, z, frames_length p es zs (omega arith) ∙ a)

module _ (f : Frame) where
  pub frame_placed : (d : Slot) (p : List Slot) (es : List ℕ) (zs : List ℤ) (i : ℕ) → i < length es → i < length zs → i < length p
      → get_or (frames_with p es zs) i f ≡ ((get_or p i d).start, pos (get_or p i d).start)
  frame_placed d p [] zs i a z placed = absurd (omega arith)
  frame_placed d p (x ∷ es) [] i a z placed = absurd (omega arith)
  frame_placed d [] (x ∷ es) (y ∷ zs) i a z placed = absurd (omega arith)
  frame_placed d (s ∷ p) (x ∷ es) (y ∷ zs) zero a z placed = refl
  frame_placed d (s ∷ p) (x ∷ es) (y ∷ zs) (suc i) a z placed = frame_placed d p es zs i (omega arith) (omega arith) (omega arith)

  pub frame_open : (p : List Slot) (es : List ℕ) (zs : List ℤ) (i : ℕ) → i < length es → i < length zs → length p ≤ i
      → get_or (frames_with p es zs) i f ≡ (get_or es i 0, get_or zs i (pos 0))
  frame_open p [] zs i a z later = absurd (omega arith)
  frame_open p (x ∷ es) [] i a z later = absurd (omega arith)
  frame_open [] (x ∷ es) (y ∷ zs) zero a z later = refl
  frame_open [] (x ∷ es) (y ∷ zs) (suc i) a z later = frame_open [] es zs i (omega arith) (omega arith) (omega arith)
  frame_open (s ∷ p) (x ∷ es) (y ∷ zs) zero a z later = absurd (omega arith)
  frame_open (s ∷ p) (x ∷ es) (y ∷ zs) (suc i) a z later = frame_open p es zs i (omega arith) (omega arith) (omega arith)

-- the last busy step of an operation that starts at z at the latest and is busy for r steps, 0 where that is below
abbrev pub Ends : ℤ → ℕ → ℕ → Type 0
Ends z r end = (z +ℤ pos r ≡ pos (end + 1)) ⊎ (((z +ℤ pos r) ≤ℤ pos 1) × (end ≡ 0))

-- what `Keeps` asks of a stay with this begin and this end
pub stay_keeps : (f : Frame) (r t begin end : ℕ) → begin ≡ min f.0 t → Ends f.1 r end → end ≤ t
    → (begin ≤ t) × (end ≤ t) × ((s e : ℕ) → s ≤ t → kept_within r s e f ≡ (leb s begin && leb end e))
stay_keeps f r t begin end begins ends soon = (omega arith, soon, λ s e low. ap₂ ◌&&◌ (begun s low) (ended e ends))
  where
    begun : (s : ℕ) → s ≤ t → leb s f.0 ≡ leb s begin
    begun s low = grind (arith, nat_tests)

    ended : (e : ℕ) → Ends f.1 r end → le_z (f.1 +ℤ pos r) (pos (e + 1)) ≡ leb end e
    ended e (inl at) = grind (arith, ints, nat_tests)
    ended e (inr below) = grind (arith, ints, nat_tests)
