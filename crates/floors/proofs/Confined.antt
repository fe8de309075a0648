-- The operations that a window counts are busy within it in every plan.
use Rattle.std.specs.Prelude.{◌≡◌, ℕ, suc, ◌+◌, ◌≤◌, Bool, true, cond, ◌&&◌, List, [], ◌∷◌, length, pos, ◌==◌, refl}
use Rattle.std.proofs.Common.{zero-le, arith}
use Rattle.std.proofs.lemmas.Int.{ints}
use Rattle.std.proofs.lemmas.Bool.Decides.{nat_tests}
use Rattle.rules.specs.declared.operation.Operation.{Operation}
use Rattle.plan.specs.declared.slot.Slot.{Slot}
use Rattle.windows.specs.Windows.{Frame, kept_within, confined, of_kind}
use Rattle.floors.proofs.Selected.{selected}
use Rattle.floors.proofs.Starts.{StartsIn, AllStartIn}

abbrev pub is_kind : ℕ → Operation → Slot → Bool
is_kind k o t = o.kind == k

abbrev pub in_window : ℕ → ℕ → ℕ → ℕ → Operation → Slot → Bool
in_window k r s e o t = o.kind == k && kept_within r s e (t.start, pos t.start)

-- one more of a count, and one more of a list
count_more : (b c : Bool) (n : ℕ) (t : Slot) (l : List Slot) → (b ≡ true → c ≡ true) → n ≤ length l → cond b 1 0 + n ≤ length (cond c (t ∷ l) l)
count_more b c n t l so h = grind arith

-- an operation whose frame keeps it within the window is busy within it
frame_inside : (k r s e : ℕ) (f : Frame) (o : Operation) (t : Slot) → StartsIn f t → (o.kind == k && kept_within r s e f) ≡ true → in_window k r s e o t ≡ true
frame_inside k r s e f o t starts h = grind (arith, ints, nat_tests)

pub confined_le : (k r s e : ℕ) (os : List Operation) (fs : List Frame) (q : List Slot) → length q ≡ length os → AllStartIn fs q
    → confined k r s e os fs ≤ length (selected (in_window k r s e) os q)
confined_le k r s e [] fs q same starts = zero-le
confined_le k r s e (o ∷ os) [] q same starts = zero-le
confined_le k r s e (o ∷ os) (f ∷ fs) [] same starts = absurd (omega arith)
confined_le k r s e (o ∷ os) (f ∷ fs) (t ∷ q) same starts =
    count_more (o.kind == k && kept_within r s e f) (in_window k r s e o t) (confined k r s e os fs) t (selected (in_window k r s e) os q)
    (frame_inside k r s e f o t (starts 0 f t refl refl)) (confined_le k r s e os fs q (omega arith) (λ i. starts (suc i)))

pub of_kind_le : (k : ℕ) (os : List Operation) (q : List Slot) → length q ≡ length os → of_kind k os ≤ length (selected (is_kind k) os q)
of_kind_le k [] q same = zero-le
of_kind_le k (o ∷ os) [] same = absurd (omega arith)
of_kind_le k (o ∷ os) (t ∷ q) same =
    count_more (o.kind == k) (o.kind == k) (of_kind k os) t (selected (is_kind k) os q) (λ h. h) (of_kind_le k os q (omega arith))

-- ---- no more than there are

count_few : (b : Bool) (n m : ℕ) → n ≤ m → cond b 1 0 + n ≤ suc m
count_few b n m h = grind arith

pub confined_few : (k r s e : ℕ) (os : List Operation) (fs : List Frame) → confined k r s e os fs ≤ length os
confined_few k r s e [] fs = zero-le
confined_few k r s e (o ∷ os) [] = zero-le
confined_few k r s e (o ∷ os) (f ∷ fs) =
    count_few (o.kind == k && kept_within r s e f) (confined k r s e os fs) (length os) (confined_few k r s e os fs)

pub of_kind_few : (k : ℕ) (os : List Operation) → of_kind k os ≤ length os
of_kind_few k [] = zero-le
of_kind_few k (o ∷ os) = count_few (o.kind == k) (of_kind k os) (length os) (of_kind_few k os)
