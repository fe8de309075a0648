-- The floors of the placed operations and of the windows are lawful, and so is the larger of two lawful floors.
use Rattle.std.specs.Prelude.{◌≡◌, ℕ, ◌+◌, ◌-◌, ◌*◌, ◌≤◌, ◌⊎◌, List, [], length}
use Rattle.std.proofs.Common.{ap, ◌∙◌, inl, inr, arith, le_trans}
use Rattle.std.proofs.lemmas.Option.{none-some}
use Rattle.std.proofs.lemmas.Nat.{mul-le}
use Rattle.rules.specs.declared.operation.Operation.{Operation}
use Rattle.rules.specs.Jobs.{Job, Valid, figure, cap_of}
use Rattle.rules.proofs.Numbered.{numbered_none}
use Rattle.plan.specs.declared.slot.Slot.{Slot}
use Rattle.plan.specs.Places.{Place}
use Rattle.plan.specs.Plans.{Stands}
use Rattle.plan.specs.Units.{units}
use Rattle.windows.specs.Windows.{frames, confined, room, window, windows}
use Rattle.floors.specs.Floors.{Floor, Sound, LawfulFloor, greater}
use Rattle.floors.proofs.Figures.{figure_le}
use Rattle.floors.proofs.Units.{units_extended, units_capped, cap_small}
use Rattle.floors.proofs.Confined.{confined_few, of_kind_few}
use Rattle.floors.proofs.OneWindow.{rounded_up_few, window_le, alone_le}
use Rattle.floors.proofs.AllWindows.{windows_le}

-- slots for which a bound is asked keep to the caps
capped : (j : Job) (p : List Slot) → (p ≡ []) ⊎ Place j p → (n : ℕ) (o : Operation) (s : Slot) → Stands j p n o s → s.unit ≤ cap_of j o
capped j p (inl none) n o s w = absurd (none-some s (numbered_none p n (grind (arith, ap length none)) ∙ w.slot))
capped j p (inr place) n o s w = (place.inside n o s w).capped

pub placed_lawful : LawfulFloor units
placed_lawful j p k valid at some few = record {
  small = omega (arith, units_capped j p (capped j p at) k, cap_small j k);
  under = λ q plan begins. units_extended j p q k begins;
}

busy_few : (j : Job) (k : ℕ) → figure (λ kind. kind.busy) j.kinds k ≤ 8
busy_few j k = figure_le 8 (λ kind. kind.busy) j.kinds k (λ kind. omega arith)

window_few : (j : Job) (p : List Slot) (k s e : ℕ) → Valid j → window j p k (figure (λ kind. kind.busy) j.kinds k) s e ≤ 512
window_few j p k s e valid =
    let r : ℕ = figure (λ kind. kind.busy) j.kinds k in
    let n : ℕ = confined k r s e j.operations (frames j p) in
    let fewer : n ≤ 64 = omega (arith, confined_few k r s e j.operations (frames j p)) in
    le_trans (rounded_up_few (n * r) (room j.latency (e + 1 - s))) (mul-le n r 64 8 fewer (busy_few j k))

pub windows_lawful : LawfulFloor windows
windows_lawful j p k valid at some few = record {
  small = windows_le j p k 65535 (λ s e. omega (arith, window_few j p k s e valid)) (λ _ _. omega (arith, of_kind_few k j.operations));
  under = λ q plan begins.
      windows_le j p k (units j q k) (λ s e. window_le valid plan k some few s e p begins) (alone_le valid plan k some few);
}

pub greater_lawful : (f g : Floor) → LawfulFloor f → LawfulFloor g → LawfulFloor (greater f g)
greater_lawful f g first second j p k valid at some few =
    let a : Sound f j p k = first j p k valid at some few in
    let b : Sound g j p k = second j p k valid at some few in
    record {
      small = omega arith;
      under = λ q plan begins.
          let left : f j p k ≤ units j q k = a.under q plan begins in
          let right : g j p k ≤ units j q k = b.under q plan begins in
          omega arith;
    }
