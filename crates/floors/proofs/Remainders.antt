-- Numbers that leave the same remainder, and are near each other.
use Rattle.std.specs.Prelude.{◌≡◌, ℕ, suc, ◌+◌, ◌*◌, ◌/◌, ◌%◌, ◌<◌, ◌≤◌}
use Rattle.std.proofs.Math.Nat.{div-add-mod}
use Rattle.std.proofs.Common.{mul-le-mul_left, sym, ◌∙◌, ⊎_elim, arith}
use Rattle.std.proofs.lemmas.Bool.{cases_lt, cases_order}

near_same : (l x y : ℕ) → x ≤ y → y < x + l → x % l ≡ y % l → x ≡ y
near_same l x y up near e =
    let a = div-add-mod x l in
    let b = div-add-mod y l in
    ⊎_elim
    (λ same. sym a ∙ (cc) ∙ b)
    (⊎_elim
    (λ less. let far : l * suc (x / l) ≤ l * (y / l) = mul-le-mul_left l less in absurd (omega arith))
    (λ more. let far : l * suc (y / l) ≤ l * (x / l) = mul-le-mul_left l more in absurd (omega arith)))
    (cases_order (x / l) (y / l))

pub offsets_same : (l a i k : ℕ) → i < l → k < l → (a + i) % l ≡ (a + k) % l → i ≡ k
offsets_same l a i k h h' e =
    ⊎_elim
    (λ less. let s = near_same l (a + i) (a + k) (omega arith) (omega arith) e in omega arith)
    (λ more. let s = near_same l (a + k) (a + i) (omega arith) (omega arith) (sym e) in omega arith)
    (cases_lt i k)
