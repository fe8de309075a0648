-- An edit that is accepted leaves a valid job.
use Rattle.std.proofs.Common.{◌≡◌, ℕ, zero, suc, ◌<◌, ◌≤◌, Bool, true, ◌&&◌, T, ltb, leb, List, [], ◌∷◌, ◌++◌, length, Some, Ok, Err, Result, sym, refl, ap, subst, ⊎_elim, arith, length-append}
use Rattle.std.proofs.lemmas.Option.{none-some}
use Rattle.std.proofs.lemmas.Bool.{and_parts, leb-true, ltb-true}
use Rattle.std.proofs.lemmas.Bool.Decides.{nat_tests}
use Rattle.rules.specs.declared.edit.Edit.{Edit}
use Rattle.rules.specs.declared.edit.Edit.TheVariants.{AddKind, AddLibraryKind, AddOperation, SetLimits}
use Rattle.rules.specs.declared.kind.Kind.{Kind}
use Rattle.rules.specs.declared.operation.Operation.{Operation}
use Rattle.rules.specs.declared.refusal.Refusal.{Refusal}
use Rattle.rules.specs.Jobs.{Job, Valid, fresh, numbered}
use Rattle.rules.specs.Library.{house_library}
use Rattle.rules.specs.Refusals.{where_holds}
use Rattle.rules.specs.Edits.{kind_of, kind_from, restarts, all_restart, plus_kind, plus_operation, limited, with_kind, with_operation, with_limits, edited}
use Rattle.rules.proofs.Numbered.{nth_push}
use Rattle.rules.proofs.Tests.{where_either}

-- what holds of every element, with one more
push_holds : {X : Type 0} (P : ℕ → X → Type 0) (xs : List X) (y : X) → ((n : ℕ) (x : X) → numbered xs n ≡ Some x → P n x) → P (suc (length xs)) y →
    (n : ℕ) (x : X) → numbered (xs ++ (y ∷ [])) n ≡ Some x → P n x
push_holds P xs y old new zero x e = absurd (none-some x e)
push_holds P xs y old new (suc i) x e =
    ⊎_elim
    (λ before. old (suc i) x before)
    (λ last. subst (λ k. P (suc k) x) (sym last.0) (subst (P (suc (length xs))) last.1 new))
    (nth_push xs y i x e)

restarts_tells : (l : ℕ) (k : Kind) → restarts l k ≡ true → 0 < l → k.busy ≤ l
restarts_tells l k h some = grind (arith, nat_tests)

all_restart_tells : (l : ℕ) (ks : List Kind) → all_restart l ks ≡ true → (n : ℕ) (k : Kind) → numbered ks n ≡ Some k → 0 < l → k.busy ≤ l
all_restart_tells l ks h zero k e some = absurd (none-some k e)
all_restart_tells l [] h (suc i) k e some = absurd (none-some k e)
all_restart_tells l (x ∷ ks) h (suc zero) k e some =
    let same : x ≡ k = cc in
    subst (λ y. y.busy ≤ l) same (restarts_tells l x (and_parts (restarts l x) (all_restart l ks) h).0 some)
all_restart_tells l (x ∷ ks) h (suc (suc i)) k e some = all_restart_tells l ks (and_parts (restarts l x) (all_restart l ks) h).1 (suc i) k e some

-- ---- the jobs that edits make

-- a job with no rows is valid at latency 0, whatever its steps
pub empty_valid : (ks : List Kind) (os : List Operation) (t : ℕ) → ks ≡ [] → os ≡ [] → 1 ≤ t → t ≤ 64 → Valid (record { kinds = ks; operations = os; steps = t; latency = 0 })
empty_valid ks os t no_kinds no_operations some few = record {
  few_kinds = omega (arith, ap length no_kinds);
  few_operations = omega (arith, ap length no_operations);
  some_steps = some;
  few_steps = few;
  short_latency = omega arith;
  restarts = λ n k e late. omega arith;
  held_kind = λ n o e. absurd (none_at n o (subst (λ xs. numbered xs n ≡ Some o) no_operations e));
  earlier_operands = λ n o e. absurd (none_at n o (subst (λ xs. numbered xs n ≡ Some o) no_operations e));
}
  where
    none_at : (n : ℕ) (o : Operation) → numbered [] n ≡ Some o → ⊥
    none_at zero o e = none-some o e
    none_at (suc n) o e = none-some o e

pub fresh_valid : Valid fresh
fresh_valid = empty_valid [] [] 1 refl refl (omega arith) (omega arith)

pub kind_added : (j : Job) (k : Kind) → Valid j → length j.kinds < 8 → restarts j.latency k ≡ true → Valid (plus_kind j k)
kind_added j k valid few fast =
    let more = length-append j.kinds (k ∷ []) in
    record {
      few_kinds = omega arith;
      few_operations = valid.few_operations;
      some_steps = valid.some_steps;
      few_steps = valid.few_steps;
      short_latency = valid.short_latency;
      restarts = push_holds (λ n x. 0 < j.latency → x.busy ≤ j.latency) j.kinds k valid.restarts (restarts_tells j.latency k fast);
      held_kind = λ n o e. let old = valid.held_kind n o e in (old.0, omega arith);
      earlier_operands = valid.earlier_operands;
    }

-- the job with these kinds, or these operations, in place of its own
abbrev pub of_kinds : Job → List Kind → Job
of_kinds j ks = record { kinds = ks; operations = j.operations; steps = j.steps; latency = j.latency }

abbrev pub of_operations : Job → List Operation → Job
of_operations j os = record { kinds = j.kinds; operations = os; steps = j.steps; latency = j.latency }

-- the same where the rows are told by what a push left
pub kind_pushed : (j : Job) (k : Kind) (ks : List Kind) → Valid j → length j.kinds < 8 → restarts j.latency k ≡ true → ks ≡ j.kinds ++ (k ∷ []) → Valid (of_kinds j ks)
kind_pushed j k ks valid few fast e =
    let P : List Kind → Type 0 = λ xs. Valid (of_kinds j xs) in
    subst P (sym e) (kind_added j k valid few fast)

pub operation_added : (j : Job) (o : Operation) → Valid j → length j.operations < 64 → (leb 1 o.kind && leb o.kind (length j.kinds)) ≡ true →
    leb o.left (length j.operations) ≡ true → leb o.right (length j.operations) ≡ true → Valid (plus_operation j o)
operation_added j o valid few held left right =
    let more = length-append j.operations (o ∷ []) in
    let kinds = and_parts (leb 1 o.kind) (leb o.kind (length j.kinds)) held in
    record {
      few_kinds = valid.few_kinds;
      few_operations = omega arith;
      some_steps = valid.some_steps;
      few_steps = valid.few_steps;
      short_latency = valid.short_latency;
      restarts = valid.restarts;
      held_kind = push_holds (λ n x. (1 ≤ x.kind) × (x.kind ≤ length j.kinds)) j.operations o valid.held_kind
          (leb-true 1 o.kind kinds.0, leb-true o.kind (length j.kinds) kinds.1);
      earlier_operands = push_holds (λ n x. (x.left < n) × (x.right < n)) j.operations o valid.earlier_operands
          (omega (arith, leb-true o.left (length j.operations) left), omega (arith, leb-true o.right (length j.operations) right));
    }

pub operation_pushed : (j : Job) (o : Operation) (os : List Operation) → Valid j → length j.operations < 64 → (leb 1 o.kind && leb o.kind (length j.kinds)) ≡ true →
    leb o.left (length j.operations) ≡ true → leb o.right (length j.operations) ≡ true → os ≡ j.operations ++ (o ∷ []) → Valid (of_operations j os)
operation_pushed j o os valid few held left right e =
    let P : List Operation → Type 0 = λ xs. Valid (of_operations j xs) in
    subst P (sym e) (operation_added j o valid few held left right)

pub limits_set : (j : Job) (t l : ℕ) → Valid j → ((leb 1 t && leb t 64) && leb l 64) ≡ true → all_restart l j.kinds ≡ true → Valid (limited j t l)
limits_set j t l valid inside fast = record {
  few_kinds = valid.few_kinds;
  few_operations = valid.few_operations;
  some_steps = grind (arith, nat_tests);
  few_steps = grind (arith, nat_tests);
  short_latency = grind (arith, nat_tests);
  restarts = all_restart_tells l j.kinds fast;
  held_kind = valid.held_kind;
  earlier_operands = valid.earlier_operands;
}

-- ---- every edit

-- the job that a change leaves, if it is accepted, is valid
abbrev pub LeavesValid : {E : Type 0} → Result Job E → Type 0
LeavesValid (Ok j) = Valid j
LeavesValid (Err why) = Unit {0}

where_valid : (b : Bool) (why : Refusal) (go : T b → Result Job ℕ) → ((t : T b) → b ≡ true → LeavesValid (go t)) → LeavesValid (where_holds b why go)
where_valid b why go h = where_either LeavesValid b why go h (λ _. tt)

module _ (j : Job) (valid : Valid j) where
  kind_valid : (r : Result Kind ℕ) → LeavesValid (with_kind j r)
  kind_valid (Err why) = tt
  kind_valid (Ok k) =
      where_valid (ltb (length j.kinds) 8) _ _ (λ _ few.
      where_valid (restarts j.latency k) _ _ (λ _ fast.
      kind_added j k valid (ltb-true (length j.kinds) 8 few) fast))

  operation_valid : (o : Operation) → LeavesValid (with_operation j o)
  operation_valid o =
      where_valid (ltb (length j.operations) 64) _ _ (λ _ few.
      where_valid (leb 1 o.kind && leb o.kind (length j.kinds)) _ _ (λ _ held.
      where_valid (leb o.left (length j.operations) && leb o.right (length j.operations)) _ _ (λ _ earlier.
      let operands = and_parts (leb o.left (length j.operations)) (leb o.right (length j.operations)) earlier in
      operation_added j o valid (ltb-true (length j.operations) 64 few) held operands.0 operands.1)))

  limits_valid : (t l : ℕ) → LeavesValid (with_limits j t l)
  limits_valid t l =
      where_valid ((leb 1 t && leb t 64) && leb l 64) _ _ (λ _ range.
      where_valid (all_restart l j.kinds) _ _ (λ _ fast.
      limits_set j t l valid range fast))

  pub edited_valid : (e : Edit) → LeavesValid (edited j e)
  edited_valid (AddKind f) = kind_valid (kind_of f)
  edited_valid (AddLibraryKind n c) = kind_valid (kind_from (numbered house_library n) c)
  edited_valid (AddOperation o) = operation_valid o
  edited_valid (SetLimits t l) = limits_valid t l
