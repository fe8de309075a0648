-- The greatest of the values of a function over some numbers.
use Rattle.std.proofs.Common.{◌≡◌, ℕ, zero, suc, ◌+◌, ◌-◌, ◌<◌, ◌≤◌, max, refl, ap, ap₂, ⊎_elim, arith}
use Rattle.std.proofs.lemmas.Bool.{cases_lt}
use Rattle.windows.specs.Windows.{greatest, over_windows}

-- a loop goes down from n to s: `most` takes in the greatest number that is left
pub greatest_turn : (f : ℕ → ℕ) (s n most all more : ℕ) → max most (greatest f s (n + 1 - s)) ≡ all → 1 ≤ n → s ≤ n → more ≡ max most (f n) → max more (greatest f s (n - 1 + 1 - s)) ≡ all
greatest_turn f s n most all more left some low taken =
    let size : n + 1 - s ≡ suc (n - 1 + 1 - s) = omega arith in
    let last : s + (n - 1 + 1 - s) ≡ n = omega arith in
    omega (arith, ap (greatest f s) size, ap f last)

-- the same of the number before n
pub greatest_taken : (f : ℕ → ℕ) (s n most all : ℕ) → max most (greatest f s (n - s)) ≡ all → (more : ℕ) → s < n → more ≡ max most (f (n - 1)) → max more (greatest f s (n - 1 - s)) ≡ all
greatest_taken f s n most all left more some taken =
    let size : n - s ≡ suc (n - 1 - s) = omega arith in
    let last : s + (n - 1 - s) ≡ n - 1 = omega arith in
    omega (arith, ap (greatest f s) size, ap f last)

-- and at the end it is all
pub greatest_end : (f : ℕ → ℕ) (s n most all : ℕ) → max most (greatest f s (n - s)) ≡ all → n ≤ s → most ≡ all
greatest_end f s n most all left end =
    let none : n - s ≡ 0 = omega arith in
    let empty : greatest f s (n - s) ≡ 0 = ap (greatest f s) none in
    omega arith

pub greatest_same : (f g : ℕ → ℕ) (s n : ℕ) → ((k : ℕ) → s ≤ k → k < s + n → f k ≡ g k) → greatest f s n ≡ greatest g s n
greatest_same f g s zero same = refl
greatest_same f g s (suc n) same =
    ap₂ max (same (s + n) (omega arith) (omega arith)) (greatest_same f g s n (λ k low high. same k low (omega arith)))

pub greatest_least : (f : ℕ → ℕ) (s n most : ℕ) → ((k : ℕ) → s ≤ k → k < s + n → f k ≤ most) → greatest f s n ≤ most
greatest_least f s zero most above = omega arith
greatest_least f s (suc n) most above =
    omega (arith, above (s + n) (omega arith) (omega arith), greatest_least f s n most (λ k low high. above k low (omega arith)))

pub greatest_above : (f : ℕ → ℕ) (s n k : ℕ) → s ≤ k → k < s + n → f k ≤ greatest f s n
greatest_above f s zero k low high = absurd (omega arith)
greatest_above f s (suc n) k low high =
    ⊎_elim
    (λ less. omega (arith, greatest_above f s n k low less))
    (λ last. let same : k ≡ s + n = omega arith in omega (arith, ap f same))
    (cases_lt k (s + n))

pub over_same : (t : ℕ) (f g : ℕ → ℕ → ℕ) → ((s e : ℕ) → s ≤ t → e ≤ t → f s e ≡ g s e) → over_windows t f ≡ over_windows t g
over_same t f g same =
    greatest_same _ _ 1 t (λ s low high. greatest_same (f s) (g s) s (t + 1 - s) (λ e after before. same s e (omega arith) (omega arith)))
