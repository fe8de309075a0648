-- The jobs that lists of changes make: each is valid, and each valid job is made.
use Rattle.std.proofs.Common.{◌≡◌, ℕ, zero, suc, ◌+◌, ◌<◌, ◌≤◌, true, List, [], ◌∷◌, ◌++◌, map, length, Some, Ok, Err, Result, sym, refl, ap, ◌∙◌, append_assoc, append-nil, arith, length-append}
use Rattle.std.proofs.lemmas.Option.{none-some}
use Rattle.std.proofs.lemmas.Bool.{and_from, le-leb}
use Rattle.std.proofs.lemmas.Bool.Decides.{nat_tests}
use Rattle.rules.specs.declared.edit.Edit.TheVariants.{AddKind, AddOperation, SetLimits}
use Rattle.rules.specs.declared.kind.Kind.{Kind}
use Rattle.rules.specs.declared.operation.Operation.{Operation}
use Rattle.rules.specs.Jobs.{Job, Valid, fresh, numbered}
use Rattle.rules.specs.Edits.{restarts, all_restart, plus_kind, plus_operation, limited, with_kind, with_operation, with_limits, edited}
use Rattle.rules.specs.Files.{figures, loaded}
use Rattle.rules.specs.Changes.{Change, edit, load, unless_refused, changed, after, RangesAreExact}
use Rattle.rules.proofs.Figures.{kind_of_kind}
use Rattle.rules.proofs.Outcomes.{kind_taken, limits_taken, operation_taken, was_accepted}
use Rattle.rules.proofs.Changing.{of_kinds, of_operations, LeavesValid, fresh_valid, edited_valid}
use Rattle.rules.proofs.Reading.{loaded_valid}

-- ---- every job that is made is valid

left_valid : {E : Type 0} (j : Job) → Valid j → (r : Result Job E) → LeavesValid r → Valid (unless_refused j r)
left_valid j valid (Ok k) new = new
left_valid j valid (Err why) new = valid

changed_valid : (j : Job) → Valid j → (c : Change) → Valid (changed j c)
changed_valid j valid (edit e) = left_valid j valid (edited j e) (edited_valid j valid e)
changed_valid j valid (load bytes) = left_valid j valid (loaded bytes) (loaded_valid bytes)

after_valid : (j : Job) → Valid j → (cs : List Change) → Valid (after j cs)
after_valid j valid [] = valid
after_valid j valid (c ∷ cs) = after_valid (changed j c) (changed_valid j valid c) cs

-- ---- every valid job is made

after_both : (j : Job) (cs ds : List Change) → after j (cs ++ ds) ≡ after (after j cs) ds
after_both j [] ds = refl
after_both j (c ∷ cs) ds = after_both (changed j c) cs ds

add_kind : Kind → Change
add_kind k = edit (AddKind (figures k.duration k.busy k.cap k.area k.draw))

kind_accepted : (j : Job) (k : Kind) → length j.kinds < 8 → restarts j.latency k ≡ true → changed j (add_kind k) ≡ plus_kind j k
unfolding add_kind
kind_accepted j k few fast =
    ap (λ r. unless_refused j (with_kind j r)) (kind_of_kind k)
    ∙ ap (unless_refused j) (was_accepted j (with_kind j (Ok k)) (plus_kind j k) (kind_taken j k few fast (j.kinds ++ (k ∷ [])) refl))

-- at latency 0 every kind restarts in time
kinds_made : (j : Job) (ks : List Kind) → j.latency ≡ 0 → length j.kinds + length ks ≤ 8 → after j (map add_kind ks) ≡ of_kinds j (j.kinds ++ ks)
kinds_made j [] none few = ap (of_kinds j) (sym (append-nil j.kinds))
kinds_made j (k ∷ ks) none few =
    let fast : restarts j.latency k ≡ true = grind (arith, nat_tests) in
    ap (λ x. after x (map add_kind ks)) (kind_accepted j k (omega arith) fast)
    ∙ kinds_made (plus_kind j k) ks none (omega (arith, length-append j.kinds (k ∷ [])))
    ∙ ap (of_kinds j) (append_assoc j.kinds (k ∷ []) ks)

all_restart_from : (l : ℕ) (ks : List Kind) → ((n : ℕ) (k : Kind) → numbered ks n ≡ Some k → 0 < l → k.busy ≤ l) → all_restart l ks ≡ true
all_restart_from l [] h = refl
all_restart_from l (x ∷ ks) h = and_from (restarts l x) (all_restart l ks) (first (h 1 x refl)) (all_restart_from l ks later)
  where
    first : (0 < l → x.busy ≤ l) → restarts l x ≡ true
    first fast = grind (arith, nat_tests)

    later : (n : ℕ) (k : Kind) → numbered ks n ≡ Some k → 0 < l → k.busy ≤ l
    later zero k e some = absurd (none-some k e)
    later (suc i) k e some = h (suc (suc i)) k e some

limits_accepted : (j : Job) (t l : ℕ) → 1 ≤ t → t ≤ 64 → l ≤ 64 → all_restart l j.kinds ≡ true → changed j (edit (SetLimits t l)) ≡ limited j t l
limits_accepted j t l some few short fast =
    ap (unless_refused j) (was_accepted j (with_limits j t l) (limited j t l) (limits_taken j t l (and_from _ _ (and_from _ _ (le-leb 1 t some) (le-leb t 64 few)) (le-leb l 64 short)) fast))

add_operation : Operation → Change
add_operation o = edit (AddOperation o)

-- an operation that names a kind and operands of the job
abbrev Held : Job → Operation → Type 0
Held j o = (1 ≤ o.kind) × (o.kind ≤ length j.kinds) × (o.left ≤ length j.operations) × (o.right ≤ length j.operations)

operation_accepted : (j : Job) (o : Operation) → length j.operations < 64 → Held j o → changed j (add_operation o) ≡ plus_operation j o
unfolding add_operation
operation_accepted j o few h =
    ap (unless_refused j)
    (was_accepted j (with_operation j o) (plus_operation j o)
    (operation_taken j o few (and_from _ _ (le-leb 1 o.kind h.0) (le-leb o.kind (length j.kinds) h.1))
    (le-leb o.left (length j.operations) h.2) (le-leb o.right (length j.operations) h.3) (j.operations ++ (o ∷ [])) refl))

-- operations to come, of which each names a kind of the job and operands before it
record Follow (j : Job) (os : List Operation) : Type 0 where
  few : length j.operations + length os ≤ 64
  held_kind : (n : ℕ) (o : Operation) → numbered os n ≡ Some o → (1 ≤ o.kind) × (o.kind ≤ length j.kinds)
  earlier : (n : ℕ) (o : Operation) → numbered os n ≡ Some o → (o.left < length j.operations + n) × (o.right < length j.operations + n)

follow_first : (j : Job) (o : Operation) (os : List Operation) → Follow j (o ∷ os) → Held j o
follow_first j o os f =
    let kinds = f.held_kind 1 o refl in
    let operands = f.earlier 1 o refl in
    (kinds.0, kinds.1, omega arith, omega arith)

follow_later : (j : Job) (o : Operation) (os : List Operation) → Follow j (o ∷ os) → Follow (plus_operation j o) os
follow_later j o os f = record {
  few = omega (arith, more);
  held_kind = later_kind;
  earlier = later_operands;
}
  where
    more : length (j.operations ++ (o ∷ [])) ≡ length j.operations + 1
    more = length-append j.operations (o ∷ [])

    later_kind : (n : ℕ) (x : Operation) → numbered os n ≡ Some x → (1 ≤ x.kind) × (x.kind ≤ length j.kinds)
    later_kind zero x e = absurd (none-some x e)
    later_kind (suc i) x e = f.held_kind (suc (suc i)) x e

    later_operands : (n : ℕ) (x : Operation) → numbered os n ≡ Some x →
        (x.left < length (j.operations ++ (o ∷ [])) + n) × (x.right < length (j.operations ++ (o ∷ [])) + n)
    later_operands zero x e = absurd (none-some x e)
    later_operands (suc i) x e = let old = f.earlier (suc (suc i)) x e in (omega (arith, more), omega (arith, more))

operations_made : (j : Job) (os : List Operation) → Follow j os → after j (map add_operation os) ≡ of_operations j (j.operations ++ os)
operations_made j [] f = ap (of_operations j) (sym (append-nil j.operations))
operations_made j (o ∷ os) f =
    ap (λ x. after x (map add_operation os)) (operation_accepted j o (omega (arith, f.few)) (follow_first j o os f))
    ∙ operations_made (plus_operation j o) os (follow_later j o os f)
    ∙ ap (of_operations j) (append_assoc j.operations (o ∷ []) os)

-- the kinds in order, then the limits, then the operations in order
changes_to : Job → List Change
changes_to j = map add_kind j.kinds ++ (edit (SetLimits j.steps j.latency) ∷ map add_operation j.operations)

valid_made : (j : Job) → Valid j → after fresh (changes_to j) ≡ j
unfolding changes_to
valid_made j valid =
    after_both fresh (map add_kind j.kinds) (edit (SetLimits j.steps j.latency) ∷ map add_operation j.operations)
    ∙ ap (λ x. after x (edit (SetLimits j.steps j.latency) ∷ map add_operation j.operations)) (kinds_made fresh j.kinds refl (omega (arith, valid.few_kinds)))
    ∙ ap (λ x. after x (map add_operation j.operations))
    (limits_accepted (of_kinds fresh j.kinds) j.steps j.latency valid.some_steps valid.few_steps valid.short_latency
    (all_restart_from j.latency j.kinds valid.restarts))
    ∙ operations_made (limited (of_kinds fresh j.kinds) j.steps j.latency) j.operations (record {
      few = omega (arith, valid.few_operations);
      held_kind = valid.held_kind;
      earlier = λ n o e. let old = valid.earlier_operands n o e in (omega arith, omega arith);
    })

pub ranges_are_exact : RangesAreExact
ranges_are_exact = record { within = after_valid fresh fresh_valid; all_made = λ j valid. (changes_to j, valid_made j valid) }
