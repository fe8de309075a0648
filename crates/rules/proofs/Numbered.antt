-- What stands at a place of a list, what has a number, and the parts of a list that a recursion comes to.
use Rattle.std.proofs.Common.{◌≡◌, ℕ, zero, suc, ◌+◌, ◌-◌, ◌<◌, ◌≤◌, ◌⊎◌, List, [], ◌∷◌, ◌++◌, length, get_or, Some, None, sym, refl, ap, ◌∙◌, inl, inr, le_of_suc-le-suc, not-suc-le-zero, arith}
use Rattle.std.specs.List.{slice_get}
use Rattle.std.proofs.lemmas.Option.{slice_get-get_or, slice_get_past, none-some, same_Some, slice_get_within}
use Rattle.rules.specs.Jobs.{numbered}

module _ {X : Type 0} where
  pub nth_within : (xs : List X) (i : ℕ) → i < length xs → (x : X) × (slice_get xs i ≡ Some x)
  nth_within [] i h = absurd (not-suc-le-zero h)
  nth_within (x ∷ xs) zero h = (x, refl)
  nth_within (x ∷ xs) (suc i) h = nth_within xs i (le_of_suc-le-suc h)

  -- what stands in a list with one more element stood there before, or is that element, at the end
  pub nth_push : (xs : List X) (y : X) (i : ℕ) (x : X) → slice_get (xs ++ (y ∷ [])) i ≡ Some x → (slice_get xs i ≡ Some x) ⊎ ((i ≡ length xs) × (y ≡ x))
  nth_push [] y zero x e = inr (refl, same_Some y x e)
  nth_push [] y (suc i) x e = absurd (none-some x e)
  nth_push (z ∷ xs) y zero x e = inl e
  nth_push (z ∷ xs) y (suc i) x e = elim (nth_push xs y i x e) [ inl h ↦ inl h | inr h ↦ inr (ap suc h.0, h.1) ]

  -- the row with a number, read from the list
  pub numbered_read : (xs : List X) (n : ℕ) (d : X) → (n ≡ 0 → ⊥) → n ≤ length xs → Some (get_or xs (n - 1) d) ≡ numbered xs n
  numbered_read xs zero d some few = absurd (some refl)
  numbered_read xs (suc i) d some few =
      let e : suc i - 1 ≡ i = omega arith in
      ap (λ m. Some (get_or xs m d)) e ∙ sym (slice_get-get_or xs i d few)

  -- where there is no row with a number, and where there is one
  pub numbered_none : (xs : List X) (n : ℕ) → (n ≡ 0) ⊎ (length xs < n) → None ≡ numbered xs n
  numbered_none xs zero none = refl
  numbered_none xs (suc i) none = sym (slice_get_past xs i (omega arith))

  pub numbered_within : (xs : List X) (n : ℕ) (x : X) → numbered xs n ≡ Some x → (1 ≤ n) × (n ≤ length xs)
  numbered_within xs zero x e = absurd (none-some x e)
  numbered_within xs (suc i) x e = (omega arith, slice_get_within xs i x e)

  -- `part` is what follows the first n of `whole`
  pub record After (n : ℕ) (whole part : List X) : Type 0 where
    pub same : (i : ℕ) → slice_get part i ≡ slice_get whole (n + i)

  pub after_none : (xs : List X) → After 0 xs xs
  after_none xs = record { same = λ i. ap (slice_get xs) (omega arith) }

  pub after_more : {n : ℕ} {whole : List X} {x : X} {part : List X} → After n whole (x ∷ part) → After (suc n) whole part
  after_more {n} {whole} {x} {part} a = record { same = λ i. a.same (suc i) ∙ ap (slice_get whole) (omega arith) }

  pub after_here : {n : ℕ} {whole : List X} {x : X} {part : List X} → After n whole (x ∷ part) → slice_get whole n ≡ Some x
  after_here {n} {whole} a = ap (slice_get whole) (omega arith) ∙ sym (a.same 0)

  pub after_at : {n : ℕ} {whole part : List X} (i : ℕ) (x : X) → After n whole part → slice_get part i ≡ Some x → slice_get whole (n + i) ≡ Some x
  after_at i x a e = sym (a.same i) ∙ e
