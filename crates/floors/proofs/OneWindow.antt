-- The floor of one window, and the floor where no two operations of a kind can share a unit.
use Rattle.std.specs.Prelude.{◌≡◌, ℕ, zero, suc, ◌+◌, ◌-◌, ◌*◌, ◌<◌, ◌≤◌, Bool, true, List, length, Some}
use Rattle.std.proofs.Common.{zero-le, sym, ◌∙◌, subst, arith, mul-le-mul_right, le_trans}
use Rattle.std.proofs.Math.Nat.{div-zero}
use Rattle.std.specs.List.{AllByRecursion}
use Rattle.std.proofs.lemmas.Nat.{div_below}
use Rattle.std.proofs.lemmas.Bool.{eqb-true}
use Rattle.std.proofs.lemmas.Bool.Decides.{nat_tests}
use Rattle.rules.specs.declared.kind.Kind.{Kind}
use Rattle.rules.specs.declared.operation.Operation.{Operation}
use Rattle.rules.specs.Jobs.{Job, Valid, numbered, figure}
use Rattle.plan.specs.declared.slot.Slot.{Slot}
use Rattle.plan.specs.Order.{Begins}
use Rattle.plan.specs.Plans.{Plan, Meet}
use Rattle.plan.specs.Units.{units}
use Rattle.windows.specs.Windows.{frames, confined, of_kind, rounded_up, room, window}
use Rattle.floors.proofs.At.{at_stands}
use Rattle.floors.proofs.Figures.{figure_at, held}
use Rattle.floors.proofs.Units.{unit_le_highest}
use Rattle.floors.proofs.Selected.{selected, all_selected, pairs_selected}
use Rattle.floors.proofs.Crowds.{Crowd, Within, crowd_fits, crowd_alone, steps_folded, remainders_folded}
use Rattle.floors.proofs.Starts.{plan_starts_in}
use Rattle.floors.proofs.Confined.{is_kind, in_window, confined_le, of_kind_le}

rounded_up_le : (n d u : ℕ) → n ≤ d * u → rounded_up n d ≤ u
rounded_up_le n zero u h = rw div-zero zero-le
rounded_up_le n (suc d) u h =
    let under = div_below (n + (suc d - 1)) (suc d) (suc u) (omega arith) (omega arith) in
    omega arith

pub rounded_up_few : (n d : ℕ) → rounded_up n d ≤ n
rounded_up_few n zero = rw div-zero zero-le
rounded_up_few n (suc d) = rounded_up_le n (suc d) n (omega arith)

-- what has room in the width and, with a latency, in the latency
room_le : (l n width u : ℕ) → n ≤ width * u → (0 < l → n ≤ l * u) → n ≤ room l width * u
room_le l n width u h k = grind (arith, nat_tests)

module _ {j : Job} {q : List Slot} (valid : Valid j) (plan : Plan j q) (k : ℕ) (some : 1 ≤ k) (few : k ≤ length j.kinds) where
  -- the busy time of the kind
  abbrev r : ℕ
  r = figure (λ kind. kind.busy) j.kinds k

  own : (kind : Kind) × (numbered j.kinds k ≡ Some kind)
  own = held j.kinds k some few

  r_is : r ≡ own.0.busy
  r_is = figure_at (λ kind. kind.busy) j.kinds k own.0 own.1

  -- the slots of any operations of the kind
  crowd : (test : Operation → Slot → Bool) → ((o : Operation) (s : Slot) → test o s ≡ true → o.kind ≡ k)
      → Crowd j.latency r (units j q k) (selected test j.operations q)
  crowd test kinds = record {
    busy = rw r_is own.0.some_busy;
    restarts = λ l. rw r_is (valid.restarts k own.0 own.1 l);
    units = all_selected test (λ s. (1 ≤ s.unit) × (s.unit ≤ units j q k)) j.operations q
        (λ i o s w t. ((plan.allowed (suc i) o s (at_stands w)).counted, unit_le_highest k j.operations q i o s w (kinds o s t)));
    apart = pairs_selected test (λ s t. s.unit ≡ t.unit → Meet j.latency r s.start t.start → ⊥) j.operations q
        (λ i i' o o' s s' less w w' t t' same meet.
        (plan.kept (suc i') o' s' (at_stands w')).apart (suc i) o s (at_stands w) (omega arith) (record {
          one_kind = kinds o s t ∙ sym (kinds o' s' t');
          one_unit = same;
          meet = subst (λ m. Meet j.latency (figure (λ kind. kind.busy) j.kinds m) s.start s'.start) (sym (kinds o s t)) meet;
        }));
  }

  module _ (s e : ℕ) where
    of_window : (o : Operation) (t : Slot) → in_window k r s e o t ≡ true → (o.kind ≡ k) × Within r s e t
    of_window o t h = grind (arith, nat_tests)

    in_crowd : Crowd j.latency r (units j q k) (selected (in_window k r s e) j.operations q)
    in_crowd = crowd (in_window k r s e) (λ o t h. (of_window o t h).0)

    inside : AllByRecursion (Within r s e) (selected (in_window k r s e) j.operations q)
    inside = all_selected (in_window k r s e) (Within r s e) j.operations q (λ i o t w h. (of_window o t h).1)

    -- the busy steps in a window find room on the units
    find_room : length (selected (in_window k r s e) j.operations q) * r ≤ room j.latency (e + 1 - s) * units j q k
    find_room =
        room_le j.latency (length (selected (in_window k r s e) j.operations q) * r) (e + 1 - s) (units j q k)
        (crowd_fits in_crowd inside (steps_folded j.latency s e))
        (λ l. crowd_fits in_crowd inside (remainders_folded j.latency s e l))

    -- a plan that begins with p has as many units as the floor of the window says
    pub window_le : (p : List Slot) → Begins p q → window j p k r s e ≤ units j q k
    window_le p b =
        let fewer = confined_le k r s e j.operations (frames j p) q plan.whole (plan_starts_in valid plan p b) in
        rounded_up_le (confined k r s e j.operations (frames j p) * r) (room j.latency (e + 1 - s)) (units j q k)
        (le_trans (mul-le-mul_right r fewer) find_room)

  -- .. and, where any two starts clash, as many as there are operations of the kind
  pub alone_le : 0 < j.latency → j.latency < 2 * r → of_kind k j.operations ≤ units j q k
  alone_le l much =
      le_trans (of_kind_le k j.operations q plan.whole) (crowd_alone (crowd (is_kind k) (λ o s h. eqb-true o.kind k h)) l much)
