-- The floor of Windows: operations that their frames keep busy within some steps need units there.
use Rattle.std.specs.Prelude.{ℕ, zero, suc, ◌+◌, ◌-◌, ◌*◌, ◌/◌, min, max, Bool, cond, ◌&&◌, List, [], ◌∷◌, ℤ, pos, ◌+ℤ◌, ◌==◌, int_le, nat_le, nat_lt}
use Rattle.rules.specs.declared.operation.Operation.{Operation}
use Rattle.rules.specs.Frames.{earliests, latests}
use Rattle.rules.specs.Jobs.{Job, figure}
use Rattle.plan.specs.declared.slot.Slot.{Slot}

-- an earliest and a latest start
abbrev pub Frame : Type 0
Frame = ℕ × ℤ

-- the frame of each operation, where the first have the slots p: a placed operation has its start as both
abbrev pub frames_with : List Slot → List ℕ → List ℤ → List Frame
frames_with p [] zs = []
frames_with p (a ∷ es) [] = []
frames_with [] (a ∷ es) (z ∷ zs) = (a, z) ∷ frames_with [] es zs
frames_with (s ∷ p) (a ∷ es) (z ∷ zs) = (s.start, pos s.start) ∷ frames_with p es zs

abbrev pub frames : Job → List Slot → List Frame
frames j p = frames_with p (earliests j) (latests j)

-- wherever in its frame it starts, an operation that is busy for r steps is busy within steps s to e: latest + r - 1 is at most e
abbrev pub kept_within : ℕ → ℕ → ℕ → Frame → Bool
kept_within r s e f = nat_le s f.0 && int_le (f.1 +ℤ pos r) (pos (e + 1))

-- how many operations of kind k are
abbrev pub confined : ℕ → ℕ → ℕ → ℕ → List Operation → List Frame → ℕ
confined k r s e [] fs = 0
confined k r s e (o ∷ os) [] = 0
confined k r s e (o ∷ os) (f ∷ fs) = cond (o.kind == k && kept_within r s e f) 1 0 + confined k r s e os fs

abbrev pub of_kind : ℕ → List Operation → ℕ
of_kind k [] = 0
of_kind k (o ∷ os) = cond (o.kind == k) 1 0 + of_kind k os

abbrev pub rounded_up : ℕ → ℕ → ℕ
rounded_up n d = (n + (d - 1)) / d

-- how many steps of a window one unit can be busy for: its length, or the latency l if that is above 0 and smaller
abbrev pub room : ℕ → ℕ → ℕ
room l width = cond (nat_lt 0 l) (min width l) width

-- the floor of a window with n operations, each busy for r steps
abbrev pub window_floor : ℕ → ℕ → ℕ → ℕ → ℕ
window_floor l r width n = rounded_up (n * r) (room l width)

-- the greatest of f s, f (s + 1) .. f (s + n - 1), 0 if n is 0
abbrev pub greatest : (ℕ → ℕ) → ℕ → ℕ → ℕ
greatest f s zero = 0
greatest f s (suc n) = max (f (s + n)) (greatest f s n)

-- the greatest of f s e over the windows, steps s to e within 1 to t
abbrev pub over_windows : ℕ → (ℕ → ℕ → ℕ) → ℕ
over_windows t f = greatest (λ s. greatest (f s) s (t + 1 - s)) 1 t

-- the floor of the window s to e for kind k, which is busy for r steps, where the first operations have the slots p
abbrev pub window : Job → List Slot → ℕ → ℕ → ℕ → ℕ → ℕ
window j p k r s e = window_floor j.latency r (e + 1 - s) (confined k r s e j.operations (frames j p))

-- the greatest floor of all windows and, where no two operations of the kind can share a unit, their number
abbrev pub windows : Job → List Slot → ℕ → ℕ
windows j p k =
    let r : ℕ = figure (λ kind. kind.busy) j.kinds k in
    max (over_windows j.steps (window j p k r))
    (cond (nat_lt 0 j.latency && nat_lt j.latency (2 * r)) (of_kind k j.operations) 0)
