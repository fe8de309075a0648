-- The earliest starts: how they are worked out from the first operation on, and their range.
use Rattle.std.proofs.Common.{◌≡◌, ℕ, zero, suc, ◌+◌, ◌*◌, ◌<◌, ◌≤◌, ◌⊎◌, List, [], ◌∷◌, ◌++◌, length, get_or, drop, Some, refl, sym, ap, ◌∙◌, subst, inl, inr, arith}
use lib.ListN.{get_or-append}
use Rattle.std.proofs.lemmas.Bool.{cases_lt}
use Rattle.std.proofs.lemmas.List.{append-nil, append_assoc, drop_more, drop_all, get_or_push, length_push}
use Rattle.std.proofs.lemmas.Option.{slice_get-get_or}
use Rattle.rules.specs.declared.operation.Operation.{Operation}
use Rattle.rules.specs.Jobs.{Job, Valid, numbered, duration_of}
use Rattle.rules.specs.Frames.{readable, earliest, earliests_after, earliests}
use Rattle.rules.proofs.Durations.{duration_short}

-- The starts of the first i operations are told, and when these can be read; the others follow from them.
pub record Told (j : Job) (starts ready : List ℕ) (i : ℕ) : Type 0 where
  pub starts_long : length starts ≡ i
  pub ready_long : length ready ≡ i
  pub early : (k : ℕ) → k ≤ i → readable ready k ≤ 1 + 8 * k
  pub follow : starts ++ earliests_after j ready (drop i j.operations) ≡ earliests j

-- the operands of row i, counted from 0, are outside or of rows before it
pub operands_earlier : (j : Job) (rows : List Operation) (i : ℕ) (e : Operation) → Valid j → rows ≡ j.operations → i < length rows → ((get_or rows i e).left ≤ i) × ((get_or rows i e).right ≤ i) × (i < 64)
operands_earlier j rows i e valid same h =
    let P : List Operation → Type 0 = λ os. numbered os (suc i) ≡ Some (get_or rows i e) in
    let before = valid.earlier_operands (suc i) (get_or rows i e) (subst P same (slice_get-get_or rows i e h)) in
    (omega (arith, before.0), omega (arith, before.1), omega (arith, ap length same, valid.few_operations))

module _ {j : Job} {starts ready : List ℕ} {i : ℕ} (told : Told j starts ready i) where
  start_early : (m : ℕ) → m ≤ i → readable ready m ≤ 1 + 8 * i
  start_early m h = omega (arith, told.early m h)

  module _ (o : Operation) (start : ℕ) (left : o.left ≤ i) (right : o.right ≤ i) (is : start ≡ earliest ready o) where
    pub start_small : start ≤ 1 + 8 * i
    start_small = omega (arith, start_early o.left left, start_early o.right right)

    early_more : (d : ℕ) → d ≤ 8 → (k : ℕ) → k ≤ i + 1 → readable (ready ++ ((start + d) ∷ [])) k ≤ 1 + 8 * k
    early_more d short zero h = omega arith
    early_more d short (suc p) h = by_place (cases_lt p i)
      where
        by_place : (p < i) ⊎ (i ≤ p) → get_or (ready ++ ((start + d) ∷ [])) p 1 ≤ 1 + 8 * suc p
        by_place (inl less) =
            let within : p < length ready = omega (arith, told.ready_long) in
            omega (arith, get_or-append ready ((start + d) ∷ []) 1 p within, told.early (suc p) (omega arith))
        by_place (inr more) =
            let last : p ≡ length ready = omega (arith, told.ready_long) in
            omega (arith, get_or_push ready (start + d) 1 p (sym last), start_small)

  -- the operation at place i, which is next
  module _ (e : Operation) (inside : i < length j.operations) where
    abbrev o : Operation
    o = get_or j.operations i e

    next : starts ++ (earliest ready o ∷ earliests_after j (ready ++ ((earliest ready o + duration_of j o) ∷ [])) (drop (i + 1) j.operations)) ≡ earliests j
    next = sym (ap (λ os. starts ++ earliests_after j ready os) (drop_more j.operations i e inside)) ∙ told.follow

    pub next_small : Valid j → earliest ready o ≤ 512
    next_small valid =
        let before = operands_earlier j j.operations i e valid refl inside in
        omega (arith, before.2, start_small o (earliest ready o) before.0 before.1 refl)

    pub told_more : o.left ≤ i → o.right ≤ i → Told j (starts ++ (earliest ready o ∷ [])) (ready ++ ((earliest ready o + duration_of j o) ∷ [])) (i + 1)
    told_more left right = record {
      starts_long = length_push starts (earliest ready o) ∙ omega (arith, told.starts_long);
      ready_long = length_push ready (earliest ready o + duration_of j o) ∙ omega (arith, told.ready_long);
      early = early_more o (earliest ready o) left right refl (duration_of j o) (duration_short j o);
      follow = append_assoc starts (earliest ready o ∷ []) _ ∙ next;
    }

pub told_all : {j : Job} {starts ready : List ℕ} {i : ℕ} → Told j starts ready i → length j.operations ≤ i → starts ≡ earliests j
told_all {j} {starts} {ready} {i} told done =
    sym (append-nil starts) ∙ sym (ap (λ os. starts ++ earliests_after j ready os) (drop_all i j.operations done)) ∙ told.follow
