-- The earliest start of an operation is the greatest of 1 and of the ends of its operands at their earliest.
use Rattle.std.proofs.Common.{◌≡◌, ℕ, zero, suc, ◌+◌, ◌<◌, ◌≤◌, max, ◌⊎◌, List, [], ◌∷◌, ◌++◌, length, get_or, Some, sym, refl, ap, ◌∙◌, subst, inl, inr, ⊎_elim, arith, length-append}
use Rattle.std.proofs.lemmas.Option.{get_or_from_slice_get, none-some, same_Some}
use lib.ListN.{get_or-append}
use Rattle.std.specs.List.{slice_get}
use Rattle.std.proofs.lemmas.List.{get_or_push}
use Rattle.std.proofs.lemmas.Bool.{cases_lt}
use Rattle.std.proofs.lemmas.Bool.Decides.{nat_tests}
use Rattle.rules.specs.declared.operation.Operation.{Operation}
use Rattle.rules.specs.Jobs.{Job, Valid, duration_of}
use Rattle.rules.specs.Frames.{Uses, readable, earliest, earliests_after, earliests, earliest_start, duration_at}
use Rattle.rules.proofs.Numbered.{After, after_none, after_more, after_here}
use Rattle.rules.proofs.Rows.{duration_held}

one_of : (a b : ℕ) → (max a b ≡ a) ⊎ (max a b ≡ b)
one_of a b = grind (arith, nat_tests)

read_before : (ready : List ℕ) (o : Operation) (p : ℕ) → (o.left ≡ p) ⊎ (o.right ≡ p) → readable ready p ≤ earliest ready o
read_before ready o p (inl e) = subst (λ k. readable ready k ≤ earliest ready o) e (omega arith)
read_before ready o p (inr e) = subst (λ k. readable ready k ≤ earliest ready o) e (omega arith)

pub earliests_length : (j : Job) (ready : List ℕ) (os : List Operation) → length (earliests_after j ready os) ≡ length os
earliests_length j ready [] = refl
earliests_length j ready (o ∷ os) = ap suc (earliests_length j (ready ++ ((earliest ready o + duration_of j o) ∷ [])) os)

module _ (j : Job) (valid : Valid j) where
  -- the end of operation n that starts at its earliest
  abbrev end : ℕ → ℕ
  end n = earliest_start j n + duration_at j n

  -- `ready` has the ends of the first operations, and all are past 0
  abbrev Ready : List ℕ → Type 0
  Ready ready = (i : ℕ) → i < length ready → (1 ≤ get_or ready i 1) × (get_or ready i 1 ≡ end (suc i))

  -- the earliest start of the operation `o` at place n is worked out from the ends of those before it
  record WorkedOut (n : ℕ) (o : Operation) : Type 0 where
    ready : List ℕ
    long : length ready ≡ n
    told : Ready ready
    start : earliest_start j (suc n) ≡ earliest ready o

  readable_positive : (ready : List ℕ) → Ready ready → (p : ℕ) → p ≤ length ready → 1 ≤ readable ready p
  readable_positive ready told zero h = omega arith
  readable_positive ready told (suc p) h = (told p h).0

  ready_more : (n : ℕ) (ready : List ℕ) (a : ℕ) → length ready ≡ n → Ready ready → 1 ≤ a → a ≡ end (suc n) → Ready (ready ++ (a ∷ []))
  ready_more n ready a long told some is i h =
      ⊎_elim
      (λ less. rw (get_or-append ready (a ∷ []) 1 i less) (told i less))
      (λ last.
      let e : i ≡ n = omega (arith, length-append ready (a ∷ [])) in
      let same : a ≡ end (suc i) = is ∙ ap (λ k. end (suc k)) (sym e) in
      rw (get_or_push ready a 1 i (long ∙ sym e)) (some, same))
      (cases_lt i (length ready))

  here : (n : ℕ) (ready : List ℕ) (o : Operation) (os : List Operation) → After n (earliests j) (earliests_after j ready (o ∷ os))
      → earliest_start j (suc n) ≡ earliest ready o
  here n ready o os b = get_or_from_slice_get (earliests j) n (earliest ready o) 0 (after_here b)

  -- an operation's end, from the ends of those before it
  end_here : (n : ℕ) (ready : List ℕ) (o : Operation) → length ready ≡ n → Ready ready → slice_get j.operations n ≡ Some o
      → earliest_start j (suc n) ≡ earliest ready o
      → (1 ≤ earliest ready o + duration_of j o) × (earliest ready o + duration_of j o ≡ end (suc n))
  end_here n ready o long told held start =
      let before = valid.earlier_operands (suc n) o held in
      let some = readable_positive ready told o.left (omega arith) in
      let d = duration_held j (suc n) o held in
      (omega arith, omega arith)

  worked_from : (n : ℕ) (ready : List ℕ) (os : List Operation) → length ready ≡ n → Ready ready → After n j.operations os
      → After n (earliests j) (earliests_after j ready os) → (i m : ℕ) (o : Operation) → m ≡ n + i → slice_get os i ≡ Some o → WorkedOut m o
  worked_from n ready [] long told a b i m o at e = absurd (none-some o e)
  worked_from n ready (r ∷ os) long told a b zero m o at e =
      let same : n ≡ m = omega arith in
      record {
        ready = ready;
        long = omega arith;
        told = told;
        start = ap (λ k. earliest_start j (suc k)) (sym same) ∙ here n ready r os b ∙ ap (earliest ready) (same_Some r o e);
      }
  worked_from n ready (r ∷ os) long told a b (suc i) m o at e =
      let more = end_here n ready r long told (after_here a) (here n ready r os b) in
      worked_from (suc n) (ready ++ ((earliest ready r + duration_of j r) ∷ [])) os
      (simp length-append (omega arith)) (ready_more n ready (earliest ready r + duration_of j r) long told more.0 more.1)
      (after_more a) (after_more b) i m o (omega arith) e

  worked_out : (n : ℕ) (o : Operation) → slice_get j.operations n ≡ Some o → WorkedOut n o
  worked_out n o e =
      worked_from 0 [] j.operations refl (λ i h. absurd (omega arith)) (after_none j.operations) (after_none (earliests j))
      n n o (omega arith) e

  -- ---- what this says of the operation `o` numbered n + 1

  module _ (n : ℕ) (o : Operation) (held : slice_get j.operations n ≡ Some o) where
    out : WorkedOut n o
    out = worked_out n o held

    pub from_one : 1 ≤ earliest_start j (suc n)
    from_one =
        let w = out in
        let before = valid.earlier_operands (suc n) o held in
        let some = readable_positive w.ready w.told o.left (omega arith) in
        omega arith

    -- what is read is the end of the operand, where it is an operation
    read_is : (p : ℕ) → 1 ≤ p → p < suc n → readable out.ready p ≡ end p
    read_is zero some less = absurd (omega arith)
    read_is (suc p) some less = (out.told p (omega (arith, out.long))).1

    pub behind_operands : (p : ℕ) → Uses j (suc n) p → end p ≤ earliest_start j (suc n)
    behind_operands p u =
        let same : u.row ≡ o = same_Some u.row o (sym u.held ∙ held) in
        let of : (o.left ≡ p) ⊎ (o.right ≡ p) = subst (λ r. (r.left ≡ p) ⊎ (r.right ≡ p)) same u.operand in
        let before = valid.earlier_operands (suc n) o held in
        omega (arith, read_before out.ready o p of, read_is p u.inside (omega arith), out.start)

    abbrev Met : Type 0
    Met = (earliest_start j (suc n) ≡ 1) ⊎ ((p : ℕ) × Uses j (suc n) p × (earliest_start j (suc n) ≡ end p))

    met_at : (p : ℕ) → p < suc n → (o.left ≡ p) ⊎ (o.right ≡ p) → earliest_start j (suc n) ≡ readable out.ready p → Met
    met_at zero less of e = inl e
    met_at (suc p) less of e =
        inr (suc p, record { row = o; held = held; inside = omega arith; operand = of }, e ∙ read_is (suc p) (omega arith) less)

    pub earliest_met : Met
    earliest_met =
        let before = valid.earlier_operands (suc n) o held in
        ⊎_elim
        (λ e. met_at o.left before.0 (inl refl) (out.start ∙ e))
        (λ e. met_at o.right before.1 (inr refl) (out.start ∙ e))
        (one_of (readable out.ready o.left) (readable out.ready o.right))
