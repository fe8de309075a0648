-- The numbers from 1 up to a last one, as a range gives them.
use Rattle.std.proofs.Common.{◌≡◌, ℕ, ◌+◌, ◌-◌, Bool, true, false, List, ◌∷◌, Option, Some, add-one, refl, sym, ap, ap₂, ◌∙◌, subst, arith}
use Rattle.std.specs.List.{range_with_len}
use Rattle.std.specs.Range.{range_inclusive_len, range_inclusive_steps}
use Rattle.std.specs.declared.ops.RangeInclusive.{RangeInclusive}
use Rattle.std.proofs.lemmas.Iterator.{YieldsList}
use Rattle.std.proofs.lemmas.Iterator.Consumers.{YieldsList-from_shown}
use Rattle.std.proofs.lemmas.List.FromFn.{length-range_with_len}

abbrev many : RangeInclusive ℕ → Bool → ℕ
many s over = range_inclusive_len (λ x y. y - x) s.start s.end over

-- the numbers that a range has left
abbrev left : RangeInclusive ℕ → List ℕ
left s = range_with_len s.start (many s s.exhausted)

abbrev steps : RangeInclusive ℕ → Option ℕ → RangeInclusive ℕ → Type 0
steps = range_inclusive_steps (λ x y. y - x) (λ x y. y ≡ x + 1)

after : (a b n : ℕ) (over : Bool) → (over ≡ false → b ≡ a + 1) → (over ≡ true → n ≡ 0) → range_with_len (a + 1) n ≡ range_with_len b n
after a b n false next none = ap (λ k. range_with_len k n) (sym (next refl))
after a b n true next none = ap (range_with_len (a + 1)) (none refl) ∙ sym (ap (range_with_len b) (none refl))

-- the first of them comes, and the others are left
one_on : (s : RangeInclusive ℕ) (x : ℕ) (t : RangeInclusive ℕ) → steps s (Some x) t → left s ≡ x ∷ left t
one_on s x t (_, (is, fewer, next)) =
    ap (range_with_len s.start) (sym fewer ∙ add-one (many t t.exhausted))
    ∙ ap₂ {A = ℕ} {B = List ℕ} (λ y ys. y ∷ ys) (sym is) (after s.start t.start (many t t.exhausted) t.exhausted next (λ over. ap (many t) over))

pub counted : (s : RangeInclusive ℕ) → s.start ≡ 1 → s.exhausted ≡ false → YieldsList steps (λ x. x) s (range_with_len 1 s.end)
counted s start fresh =
    let long : many s s.exhausted ≡ s.end - s.start + 1 - (s.start - s.end) = ap (many s) fresh in
    subst (YieldsList steps (λ x. x) s) (ap₂ range_with_len start (omega arith))
    (YieldsList-from_shown steps (λ x. x) left (λ u t h. length-range_with_len _ _ ∙ h.1.0) one_on s)
