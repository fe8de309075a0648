-- What each edit comes to, by the tests that it passed or failed.
use Rattle.std.proofs.Common.{◌≡◌, ℕ, ◌<◌, ◌≤◌, true, false, ◌&&◌, ltb, leb, List, [], ◌∷◌, ◌++◌, length, Ok, Err, Result, sym, refl, ap, subst, arith}
use Rattle.std.proofs.lemmas.Bool.{leb-true, lt-ltb, and_from}
use Rattle.rules.specs.declared.kind.Figures.{Figures}
use Rattle.rules.specs.declared.kind.Kind.{Kind}
use Rattle.rules.specs.declared.operation.Operation.{Operation}
use Rattle.rules.specs.Edits.{kind_of, restarts, all_restart, limited, with_kind, with_operation, with_limits, Became}
use Rattle.rules.specs.Jobs.{Job}
use Rattle.rules.proofs.Changing.{of_kinds, of_operations}
use Rattle.rules.proofs.Tests.{where_either, where_on, where_off}

-- figures out of range
pub kind_refused : (f : Figures) → f.area ≤ 65535 → f.draw ≤ 65535 → (1 ≤ f.busy → f.busy ≤ f.duration → f.duration ≤ 8 → f.cap ≤ 64 → ⊥) → Err 1 ≡ kind_of f
kind_refused f small weak out =
    where_either P (leb 1 f.busy) _ _ (λ _ a.
    where_either P (leb f.busy f.duration) _ _ (λ _ b.
    where_either P (leb f.duration 8) _ _ (λ _ c.
    where_either P (leb f.cap 64) _ _ (λ _ d. absurd (out (leb-true 1 f.busy a) (leb-true f.busy f.duration b) (leb-true f.duration 8 c) (leb-true f.cap 64 d)))
    (λ _. refl)) (λ _. refl)) (λ _. refl)) (λ _. refl)
  where
    P : Result Kind ℕ → Type 0
    P r = Err 1 ≡ r

module _ (j : Job) (k : Kind) (room : length j.kinds < 8) where
  pub kind_too_slow : restarts j.latency k ≡ false → Became j (with_kind j (Ok k)) (Err 13) j
  kind_too_slow slow =
      where_on (λ w. Became j w (Err 13) j) (ltb (length j.kinds) 8) _ _ (lt-ltb (length j.kinds) 8 room) (λ _.
      where_off (λ w. Became j w (Err 13) j) (restarts j.latency k) _ _ slow (refl, refl))

  pub kind_taken : restarts j.latency k ≡ true → (ks : List Kind) → ks ≡ j.kinds ++ (k ∷ []) → Became j (with_kind j (Ok k)) (Ok tt) (of_kinds j ks)
  kind_taken fast ks e =
      where_on (λ w. Became j w (Ok tt) (of_kinds j ks)) (ltb (length j.kinds) 8) _ _ (lt-ltb (length j.kinds) 8 room) (λ _.
      where_on (λ w. Became j w (Ok tt) (of_kinds j ks)) (restarts j.latency k) _ _ fast (λ _. (refl, ap (of_kinds j) e)))

module _ (j : Job) (o : Operation) (room : length j.operations < 64) where
  with_room : ltb (length j.operations) 64 ≡ true
  with_room = lt-ltb (length j.operations) 64 room

  pub kind_not_held : (leb 1 o.kind && leb o.kind (length j.kinds)) ≡ false → Became j (with_operation j o) (Err 11) j
  kind_not_held none =
      where_on (λ w. Became j w (Err 11) j) (ltb (length j.operations) 64) _ _ with_room (λ _.
      where_off (λ w. Became j w (Err 11) j) (leb 1 o.kind && leb o.kind (length j.kinds)) _ _ none (refl, refl))

  module _ (held : (leb 1 o.kind && leb o.kind (length j.kinds)) ≡ true) where
    pub operand_not_held : (leb o.left (length j.operations) && leb o.right (length j.operations)) ≡ false → Became j (with_operation j o) (Err 12) j
    operand_not_held beyond =
        where_on (λ w. Became j w (Err 12) j) (ltb (length j.operations) 64) _ _ with_room (λ _.
        where_on (λ w. Became j w (Err 12) j) (leb 1 o.kind && leb o.kind (length j.kinds)) _ _ held (λ _.
        where_off (λ w. Became j w (Err 12) j) (leb o.left (length j.operations) && leb o.right (length j.operations)) _ _ beyond (refl, refl)))

    pub operation_taken : leb o.left (length j.operations) ≡ true → leb o.right (length j.operations) ≡ true → (os : List Operation) → os ≡ j.operations ++ (o ∷ []) → Became j (with_operation j o) (Ok tt) (of_operations j os)
    operation_taken left right os e =
        where_on (λ w. Became j w (Ok tt) (of_operations j os)) (ltb (length j.operations) 64) _ _ with_room (λ _.
        where_on (λ w. Became j w (Ok tt) (of_operations j os)) (leb 1 o.kind && leb o.kind (length j.kinds)) _ _ held (λ _.
        where_on (λ w. Became j w (Ok tt) (of_operations j os)) (leb o.left (length j.operations) && leb o.right (length j.operations)) _ _
        (and_from _ _ left right) (λ _. (refl, ap (of_operations j) e))))

module _ (j : Job) (t l : ℕ) where
  pub limits_out : ((leb 1 t && leb t 64) && leb l 64) ≡ false → Became j (with_limits j t l) (Err 2) j
  limits_out out = where_off (λ w. Became j w (Err 2) j) ((leb 1 t && leb t 64) && leb l 64) _ _ out (refl, refl)

  module _ (inside : ((leb 1 t && leb t 64) && leb l 64) ≡ true) where
    pub limits_too_short : all_restart l j.kinds ≡ false → Became j (with_limits j t l) (Err 13) j
    limits_too_short slow =
        where_on (λ w. Became j w (Err 13) j) ((leb 1 t && leb t 64) && leb l 64) _ _ inside (λ _.
        where_off (λ w. Became j w (Err 13) j) (all_restart l j.kinds) _ _ slow (refl, refl))

    pub limits_taken : all_restart l j.kinds ≡ true → Became j (with_limits j t l) (Ok tt) (limited j t l)
    limits_taken fast =
        where_on (λ w. Became j w (Ok tt) (limited j t l)) ((leb 1 t && leb t 64) && leb l 64) _ _ inside (λ _.
        where_on (λ w. Became j w (Ok tt) (limited j t l)) (all_restart l j.kinds) _ _ fast (λ _. (refl, refl)))

-- what is left of the kinds, one kind on and at the end
pub all_restart_past : (l : ℕ) (k : Kind) (ks : List Kind) → restarts l k ≡ true → all_restart l (k ∷ ks) ≡ all_restart l ks
all_restart_past l k ks fast = rw fast refl

pub all_restart_stopped : (l : ℕ) (k : Kind) (ks : List Kind) → restarts l k ≡ false → all_restart l (k ∷ ks) ≡ false
all_restart_stopped l k ks slow = rw slow refl

-- what a call was to make, by what it answered
pub was_accepted : (old : Job) (wanted : Result Job ℕ) (left : Job) → Became old wanted (Ok tt) left → wanted ≡ Ok left
was_accepted old (Ok j) left b = ap Ok (sym b.1)
was_accepted old (Err why) left b = let z : ◌≡◌ {A = ℕ} 0 1 = cc b.0 in absurd (omega arith)

pub was_refused : (old : Job) (wanted : Result Job ℕ) (left : Job) (n : ℕ) → Became old wanted (Err n) left → wanted ≡ Err n
was_refused old (Ok j) left n b = let z : ◌≡◌ {A = ℕ} 0 1 = cc b.0 in absurd (omega arith)
was_refused old (Err why) left n b = let e : why ≡ n = cc b.0 in ap Err e

module _ {E : Type 0} (old : Job) where
  pub became_wanted : (wanted : Result Job E) (j left : Job) → Ok j ≡ wanted → left ≡ j → Became old wanted (Ok tt) left
  became_wanted wanted j left e same = subst (λ w. Became old w (Ok tt) left) e (refl, same)

  pub stayed_refused : (wanted : Result Job E) (why : E) → Err why ≡ wanted → Became old wanted (Err why) old
  stayed_refused wanted why e = subst (λ w. Became old w (Err why) old) e (refl, refl)
