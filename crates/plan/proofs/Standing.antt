-- An operation and its slot, by their number, and in the list of all that have a slot.
use Rattle.std.proofs.Common.{◌≡◌, ℕ, zero, suc, ◌+◌, ◌-◌, ◌<◌, ◌≤◌, ◌⊎◌, List, length, get_or, take, sym, ap, ◌∙◌, subst, refl, ⊎_elim, arith, Bool, true, false, Decides, add-one}
use Rattle.std.specs.Bool.{MatchBool}
use Rattle.std.specs.List.{zip, range_with_len, AllWithin, HoldsAt}
use Rattle.std.proofs.lemmas.Bool.{cases_lt, false≢true}
use Rattle.std.proofs.lemmas.List.{get_or-take, length-take}
use Rattle.std.proofs.lemmas.List.FromFn.{get_or-range_with_len, length-range_with_len}
use Rattle.std.proofs.lemmas.Option.{get_or_from_slice_get, none-some, same_Some, slice_get_within}
use Rattle.std.proofs.lemmas.Slice.Zip.{get_or-zip, length-zip}
use Rattle.rules.specs.declared.operation.Operation.{Operation}
use Rattle.rules.specs.Jobs.{Job, numbered}
use Rattle.rules.proofs.Durations.{no_operation}
use Rattle.rules.proofs.Numbered.{numbered_read, numbered_within}
use Rattle.plan.specs.declared.slot.Slot.{Slot}
use Rattle.plan.specs.Plans.{Clash, Stands, Apart, Fits, Plan}

-- n is the number of an operation of the job that has a slot
pub record Held (j : Job) (p : List Slot) (n : ℕ) : Type 0 where
  pub some : 1 ≤ n
  pub held : n ≤ length j.operations
  pub placed : n ≤ length p

module _ {j : Job} {p : List Slot} where
  pub stands_within : {n : ℕ} {o : Operation} {s : Slot} → Stands j p n o s → Held j p n
  stands_within {n} {o} {s} w =
      let a = numbered_within j.operations n o w.row in
      record { some = a.0; held = a.1; placed = (numbered_within p n s w.slot).1 }

  -- one number has one operation and one slot
  pub stands_same : (P : Operation → Slot → Type 0) {n : ℕ} {o q : Operation} {s t : Slot} → Stands j p n o s → Stands j p n q t → P o s → P q t
  stands_same P {n} {o} {q} {s} {t} v w h =
      let rows : o ≡ q = same_Some o q (sym v.row ∙ w.row) in
      let slots : s ≡ t = same_Some s t (sym v.slot ∙ w.slot) in
      subst (λ x. P x t) rows (subst (P o) slots h)

-- the rows `os` of the job and its slots, read by number
module _ (j : Job) (p : List Slot) (os : List Operation) (same : os ≡ j.operations) where
  pub stands_read : (n : ℕ) (d : Operation) (e : Slot) → (n ≡ 0 → ⊥) → n ≤ length os → n ≤ length p → Stands j p n (get_or os (n - 1) d) (get_or p (n - 1) e)
  stands_read n d e some held placed = record {
    row = sym (numbered_read os n d some held ∙ ap (λ xs. numbered xs n) same);
    slot = sym (numbered_read p n e some placed);
  }

  -- by place, from 0
  pub stands_at : (i : ℕ) (d : Operation) (e : Slot) → i < length os → i < length p → Stands j p (i + 1) (get_or os i d) (get_or p i e)
  stands_at i d e held placed =
      let back : i + 1 - 1 ≡ i = omega arith in
      subst (λ k. Stands j p (i + 1) (get_or os k d) (get_or p k e)) back (stands_read (i + 1) d e (λ none. omega arith) (omega arith) (omega arith))

  pub stands_none : (n : ℕ) → (n ≡ 0) ⊎ ((length os < n) ⊎ (length p < n)) → (o : Operation) (s : Slot) → Stands j p n o s → ⊥
  stands_none n none o s w = omega (arith, stands_within w, ap length same)

-- what holds of the operations before place i, and there, holds of those before the next
pub stands_more : {j : Job} {p : List Slot} (P : ℕ → Operation → Slot → Type 0) (i : ℕ) (o : Operation) (s : Slot) → Stands j p (i + 1) o s → P (i + 1) o s →
    ((n : ℕ) (q : Operation) (t : Slot) → Stands j p n q t → n < i + 1 → P n q t) → (n : ℕ) (q : Operation) (t : Slot) → Stands j p n q t → n < i + 1 + 1 → P n q t
stands_more {j} {p} P i o s here holds before n q t w h =
    ⊎_elim
    (before n q t w)
    (λ last.
    let e : i + 1 ≡ n = omega arith in
    subst (λ m. Stands j p m q t → P m q t) e (λ v. stands_same (P (i + 1)) here v holds) w)
    (cases_lt n (i + 1))

decided : {P : Type 0} (r : Bool) → MatchBool r P (P → ⊥) → Decides r P
decided true p = (λ _. p, λ _. refl)
decided false none = (λ e. absurd (false≢true e), λ p. absurd (none p))

module _ (j : Job) (p : List Slot) where
  -- the operations that have a slot, in the order of their numbers
  abbrev placed : List (Operation × Slot)
  placed = zip j.operations p

  placed_stands : (k : ℕ) (d : Operation × Slot) → k < length placed → Stands j p (k + 1) (get_or placed k d).0 (get_or placed k d).1
  placed_stands k d h =
      let held : k < length j.operations = omega (arith, length-zip j.operations p) in
      let slotted : k < length p = omega (arith, length-zip j.operations p) in
      subst (λ x. Stands j p (k + 1) x.0 x.1) (sym (get_or-zip j.operations p k d held slotted)) (stands_at j p j.operations refl k d.0 d.1 held slotted)

  record Placed (n : ℕ) (o : Operation) (s : Slot) : Type 0 where
    place : ℕ
    number : n ≡ place + 1
    within : place < length placed
    here : get_or placed place (o, s) ≡ (o, s)

  stands_placed : (n : ℕ) (o : Operation) (s : Slot) → Stands j p n o s → Placed n o s
  stands_placed zero o s w = absurd (none-some o w.row)
  stands_placed (suc k) o s w =
      let held : k < length j.operations = slice_get_within j.operations k o w.row in
      let slotted : k < length p = slice_get_within p k s w.slot in
      record {
        place = k;
        number = sym (add-one k);
        within = omega (arith, length-zip j.operations p);
        here = get_or-zip j.operations p k (o, s) held slotted ∙ cc (get_or_from_slice_get j.operations k o o w.row, get_or_from_slice_get p k s s w.slot);
      }

  -- each of those before number n was asked
  pub apart_told : (n : ℕ) (o : Operation) (s : Slot) (r : Bool)
      → MatchBool r (AllWithin (λ x. Clash j x.0 x.1 o s → ⊥) (take (n - 1) placed) 0 (length (take (n - 1) placed)))
      ((k : ℕ) × (k < length (take (n - 1) placed)) × HoldsAt (λ x. Clash j x.0 x.1 o s) (take (n - 1) placed) k)
      → Decides r (Apart j p n o s)
  apart_told n o s true each =
      decided true (λ m q t w before.
      let v = stands_placed m q t w in
      subst (λ x. Clash j x.0 x.1 o s → ⊥) (get_or-take (n - 1) placed v.place (q, t) (omega arith) ∙ v.here)
      (each v.place (q, t) (omega arith) (omega (arith, length-take (n - 1) placed))))
  apart_told n o s false (k, short, clash) =
      let before : k < n - 1 = omega (arith, length-take (n - 1) placed) in
      decided false (λ apart.
      apart (k + 1) _ _ (placed_stands k (o, s) (omega (arith, length-take (n - 1) placed))) (omega arith)
      (subst (λ x. Clash j x.0 x.1 o s) (get_or-take (n - 1) placed k (o, s) before) (clash (o, s))))

  abbrev pub FitsThere : ℕ × (Operation × Slot) → Type 0
  FitsThere x = Fits j p x.0 x.1.0 x.1.1

  -- each was asked, beside its number
  pub plan_told : (top : ℕ) → length j.operations ≤ top → length p ≡ length j.operations → (r : Bool)
      → MatchBool r (AllWithin FitsThere (zip (range_with_len 1 top) placed) 0 (length (zip (range_with_len 1 top) placed)))
      ((k : ℕ) × (k < length (zip (range_with_len 1 top) placed)) × HoldsAt (λ x. FitsThere x → ⊥) (zip (range_with_len 1 top) placed) k)
      → Decides r (Plan j p)
  plan_told top few whole true each =
      let fits : (n : ℕ) (o : Operation) (s : Slot) → Stands j p n o s → Fits j p n o s = (λ n o s w.
      let v = stands_placed n o s w in
      let short : length placed ≤ top = omega (arith, length-zip j.operations p) in
      let number : get_or (range_with_len 1 top) v.place n ≡ n = get_or-range_with_len 1 top v.place n (omega arith) ∙ omega arith in
      subst FitsThere
      (get_or-zip (range_with_len 1 top) placed v.place (n, (o, s)) (omega (arith, length-range_with_len 1 top)) v.within ∙ cc (number, v.here))
      (each v.place (n, (o, s)) (omega arith) (omega (arith, length-zip (range_with_len 1 top) placed, length-range_with_len 1 top)))) in
      decided true (record { whole = whole; allowed = λ n o s w. (fits n o s w).allowed; kept = λ n o s w. (fits n o s w).kept o s w })
  plan_told top few whole false (k, short, unfit) =
      let d : Operation × Slot = (no_operation, record { start = 0; unit = 0 }) in
      let within : k < length placed = omega (arith, length-zip (range_with_len 1 top) placed) in
      let numbers : k < length (range_with_len 1 top) = omega (arith, length-zip (range_with_len 1 top) placed) in
      let number : get_or (range_with_len 1 top) k 0 ≡ k + 1 = get_or-range_with_len 1 top k 0 (omega (arith, length-range_with_len 1 top)) ∙ omega arith in
      let here : Stands j p (k + 1) (get_or placed k d).0 (get_or placed k d).1 = placed_stands k d within in
      decided false (λ plan.
      subst (λ x. FitsThere x → ⊥) (get_or-zip (range_with_len 1 top) placed k (0, d) numbers within ∙ cc number) (unfit (0, d))
      (record { allowed = plan.allowed (k + 1) _ _ here; kept = plan.kept (k + 1) }))
