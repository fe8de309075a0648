-- Every plan starts its operations inside their frames, so its first slots are a place.
use Rattle.std.specs.Prelude.{◌≡◌, ℕ, zero, suc, ◌+◌, ◌<◌, ◌≤◌, List, [], ◌∷◌, ◌++◌, length, pos, ◌≤ℤ◌, Some}
use Rattle.std.proofs.Common.{sym, ap, subst, ◌∙◌, ⊎_elim, arith, length-append}
use Rattle.std.proofs.lemmas.Option.{none-some, same_Some}
use Rattle.std.specs.List.{slice_get}
use Rattle.std.proofs.lemmas.Int.{ints}
use Rattle.rules.specs.declared.operation.Operation.{Operation}
use Rattle.rules.specs.Jobs.{Job, Valid, numbered, duration_of}
use Rattle.rules.specs.Frames.{Uses, Framed, earliest_start, latest_start, duration_at}
use Rattle.rules.proofs.Numbered.{nth_within, numbered_within}
use Rattle.rules.proofs.Rows.{duration_held}
use Rattle.rules.proofs.FramesRight.{frames_right}
use Rattle.plan.specs.declared.slot.Slot.{Slot}
use Rattle.plan.specs.Order.{Begins}
use Rattle.plan.specs.Places.{Choosable, Inside, Place}
use Rattle.plan.specs.Plans.{Plan, Stands, DoneBy}

module _ (j : Job) (valid : Valid j) (q : List Slot) (plan : Plan j q) where
  -- the slot of operation n
  record Placed (n : ℕ) : Type 0 where
    operation : Operation
    slot : Slot
    stands : Stands j q n operation slot

  placed : (n : ℕ) → 1 ≤ n → n ≤ length j.operations → Placed n
  placed zero some few = absurd (omega arith)
  placed (suc i) some few =
      let o = nth_within j.operations i few in
      let s = nth_within q i (omega (arith, plan.whole)) in
      record { operation = o.0; slot = s.0; stands = record { row = o.1; slot = s.1 } }

  framed : (n : ℕ) (o : Operation) (s : Slot) → Stands j q n o s → Framed j n
  framed n o s w = let r = numbered_within j.operations n o w.row in frames_right j valid n r.0 r.1

  -- an operand is done when its user starts
  done_before : (m n : ℕ) (a b : Operation) (s t : Slot) → Stands j q m a s → Stands j q n b t → Uses j n m → s.start + duration_at j m ≤ t.start
  done_before m n a b s t v w u =
      let same : u.row ≡ b = same_Some u.row b (sym u.held ∙ w.row) in
      let kept = plan.kept n b t w in
      let done : s.start + duration_of j a ≤ t.start =
      ⊎_elim
      (λ e. subst (λ x. DoneBy j q x t.start) (ap (λ r. r.left) (sym same) ∙ e) kept.left a s v)
      (λ e. subst (λ x. DoneBy j q x t.start) (ap (λ r. r.right) (sym same) ∙ e) kept.right a s v)
      u.operand in
      omega (arith, duration_held j m a v.row)

  -- operands come before their users: by induction on the number
  begun : (most n : ℕ) (o : Operation) (s : Slot) → n ≤ most → Stands j q n o s → earliest_start j n ≤ s.start
  begun zero n o s few w = let r = numbered_within j.operations n o w.row in absurd (omega arith)
  begun (suc most) n o s few w =
      ⊎_elim
      (λ one. omega (arith, (plan.allowed n o s w).begun))
      (λ met.
      let u = met.1 in
      let before = valid.earlier_operands n u.row u.held in
      let less : met.0 < n = omega (arith, u.operand) in
      let r = numbered_within j.operations n o w.row in
      let m = placed met.0 u.inside (omega arith) in
      let its = begun most met.0 m.operation m.slot (omega arith) m.stands in
      omega (arith, met.2, done_before met.0 n m.operation o m.slot s m.stands w u))
      (framed n o s w).earliest_met

  -- .. and on how many come after it
  ended : (left n : ℕ) (o : Operation) (s : Slot) → length j.operations < n + left → Stands j q n o s → pos s.start ≤ℤ latest_start j n
  ended zero n o s few w = let r = numbered_within j.operations n o w.row in absurd (omega arith)
  ended (suc left) n o s few w =
      ⊎_elim
      (λ last. omega (arith, ints, (plan.allowed n o s w).done, duration_held j n o w.row))
      (λ met.
      let u = met.1 in
      let before = valid.earlier_operands met.0 u.row u.held in
      let more : n < met.0 = omega (arith, u.operand) in
      let r = numbered_within j.operations met.0 u.row u.held in
      let m = placed met.0 r.0 r.1 in
      let its = ended left met.0 m.operation m.slot (omega arith) m.stands in
      omega (arith, ints, met.2, done_before n met.0 o m.operation s m.slot w m.stands u))
      (framed n o s w).latest_met

pub plan_inside : {j : Job} {q : List Slot} → Valid j → Plan j q → (n : ℕ) (o : Operation) (s : Slot) → Stands j q n o s → Inside j n o s
plan_inside {j} {q} valid plan n o s w =
    let own = plan.allowed n o s w in
    record {
      begun = begun j valid q plan n n o s (omega arith) w;
      ended = ended j valid q plan (suc (length j.operations)) n o s (omega arith) w;
      counted = own.counted;
      capped = own.capped;
    }

-- what has a place in a list has it in what begins with the list
nth_begins : (p rest : List Slot) (i : ℕ) (s : Slot) → slice_get p i ≡ Some s → slice_get (p ++ rest) i ≡ Some s
nth_begins [] rest i s e = absurd (none-some s e)
nth_begins (t ∷ p) rest zero s e = e
nth_begins (t ∷ p) rest (suc i) s e = nth_begins p rest i s e

numbered_begins : (p q : List Slot) → Begins p q → (n : ℕ) (s : Slot) → numbered p n ≡ Some s → numbered q n ≡ Some s
numbered_begins p q b zero s e = absurd (none-some s e)
numbered_begins p q b (suc i) s e = subst (λ l. slice_get l i ≡ Some s) b.1 (nth_begins p b.0 i s e)

-- so the first slots of a plan are a place
pub plan_place : {j : Job} {q : List Slot} → Valid j → Plan j q → (p : List Slot) → Begins p q → 1 ≤ length p → Place j p
plan_place {j} {q} valid plan p b some = record {
  some = some;
  few = omega (arith, length-append p b.0, ap length b.1, plan.whole);
  open_job = λ n o e.
      let r = numbered_within j.operations n o e in
      let m = placed j valid q plan n r.0 r.1 in
      let inside = plan_inside valid plan n m.operation m.slot m.stands in
      let same : m.operation ≡ o = same_Some m.operation o (sym m.stands.row ∙ e) in
      subst (Choosable j n) same (record { start = omega (arith, ints); unit = omega arith });
  inside = λ n o s w. plan_inside valid plan n o s (record { row = w.row; slot = numbered_begins p q b n s w.slot });
}
