-- The busy steps of two starts meet exactly where the starts are near: in one sample, or going round the latency.
use Rattle.std.proofs.Common.{◌≡◌, ℕ, zero, suc, ◌+◌, ◌-◌, ◌*◌, ◌/◌, ◌%◌, ◌<◌, ◌≤◌, min, ltb, ◌⊎◌, Decides, sym, ap, ◌∙◌, subst, inl, inr, ⊎_elim, mod-lt, mod-eq_of_lt, suc-mul, div-add-mod', mul-suc, arith}
use native.Mathlib.Nat.{mod-add-mod, add-mod-mod, add-mul-mod_self_right, mod-le, mod-mod, zero-mod}
use Rattle.std.proofs.lemmas.Bool.{cases_lt}
use Rattle.std.proofs.lemmas.Bool.Decides.{nat_tests, Decides-at, Decides-like, Decides-ltb}
use Rattle.plan.specs.Distance.{apart, distance}
use Rattle.plan.specs.Plans.{SameStep, Meet}

pub same_step_sym : (l x y : ℕ) → SameStep l x y → SameStep l y x
same_step_sym l x y h = ⊎_elim (λ e. inl (sym e)) (λ m. inr (m.0, sym m.1)) h

pub meet_sym : (l r a b : ℕ) → Meet l r a b → Meet l r b a
meet_sym l r a b (i, k, hi, hk, same) = (k, i, hk, hi, same_step_sym l (a + i) (b + k) same)

-- a fact of two starts that holds in either order is shown where the first is not the later
in_order : (P : ℕ → ℕ → ℕ → Type 0) → ((a b d : ℕ) → P a b d → P b a d) → ((a d : ℕ) → P a (a + d) d) → (a b : ℕ) → P a b (apart a b)
in_order P swap up a b = by_order (cases_lt a b)
  where
    by_order : (a < b) ⊎ (b ≤ a) → P a b (apart a b)
    by_order (inl h) =
        let there : a + apart a b ≡ b = omega arith in
        subst (λ x. P a x (apart a b)) there (up a (apart a b))
    by_order (inr h) =
        let there : b + apart a b ≡ a = omega arith in
        swap b a (apart a b) (subst (λ x. P b x (apart a b)) there (up b (apart a b)))

-- ---- in one sample

pub near_meet : (l r a b : ℕ) → apart a b < r → Meet l r a b
near_meet l r =
    in_order (λ a b d. d < r → Meet l r a b) (λ a b d f h. meet_sym l r a b (f h))
    (λ a d h. (d, 0, h, omega arith, inl (omega arith)))

pub meet_near : (r a b : ℕ) → Meet 0 r a b → apart a b < r
meet_near r a b (i, k, hi, hk, inl e) = omega arith
meet_near r a b (i, k, hi, hk, inr m) = absurd (omega arith)

-- ---- round the latency

-- a summand that both sides have falls away
mod_cancel : (l x y k : ℕ) → (x + k) % suc l ≡ (y + k) % suc l → x % suc l ≡ y % suc l
mod_cancel l x y k e = full x ∙ ap (λ n. (n + k * l) % suc l) e ∙ sym (full y)
  where
    full : (z : ℕ) → z % suc l ≡ ((z + k) % suc l + k * l) % suc l
    full z =
        let sum : (z + k) + k * l ≡ z + k * suc l = omega (arith, mul-suc k l) in
        sym (mod-add-mod (z + k) (suc l) (k * l) ∙ ap (λ n. n % suc l) sum ∙ add-mul-mod_self_right z k (suc l))

pub behind_meet : (l r a b : ℕ) → 0 < l → apart a b % l < r → Meet l r a b
behind_meet l r a b some =
    in_order (λ a b d. d % l < r → Meet l r a b) (λ a b d f h. meet_sym l r a b (f h))
    (λ a d h. (d % l, 0, h, omega arith, inr (some, add-mod-mod a d l ∙ ap (λ n. n % l) (omega arith)))) a b

pub ahead_meet : (l r a b : ℕ) → 0 < l → l - apart a b % l < r → Meet l r a b
ahead_meet l r a b some =
    in_order (λ a b d. l - d % l < r → Meet l r a b) (λ a b d f h. meet_sym l r a b (f h))
    (λ a d h.
    let round : (a + d) + (l - d % l) ≡ a + suc (d / l) * l = omega (arith, div-add-mod' d l, suc-mul (d / l) l, mod-lt d some) in
    let none : a + 0 ≡ a = omega arith in
    (0, l - d % l, omega arith, h, inr (some, ap (λ n. n % l) none ∙ sym (add-mul-mod_self_right a (suc (d / l)) l) ∙ ap (λ n. n % l) (sym round)))) a b

pub meet_round : (l r a b : ℕ) → 0 < l → Meet l r a b → (apart a b % l < r) ⊎ (l - apart a b % l < r)
meet_round zero r a b some = absurd (omega arith)
meet_round (suc l) r a b some =
    in_order (λ a b d. Meet (suc l) r a b → (d % suc l < r) ⊎ (suc l - d % suc l < r)) (λ a b d f h. f (meet_sym (suc l) r b a h)) up a b
  where
    rounds : (x y : ℕ) → SameStep (suc l) x y → x % suc l ≡ y % suc l
    rounds x y (inl e) = ap (λ n. n % suc l) e
    rounds x y (inr e) = e.1

    -- the steps that meet, counted from the earlier start, without the whole rounds
    reduced : (a d i k : ℕ) → SameStep (suc l) (a + i) (a + d + k) → i % suc l ≡ (d % suc l + k) % suc l
    reduced a d i k same =
        let left : i + a ≡ a + i = omega arith in
        let right : a + d + k ≡ (d + k) + a = omega arith in
        mod_cancel l i (d + k) a (ap (λ n. n % suc l) left ∙ rounds (a + i) (a + d + k) same ∙ ap (λ n. n % suc l) right)
        ∙ sym (mod-add-mod d (suc l) k)

    by_order : (d i k : ℕ) → i < r → k < r → i % suc l ≡ (d % suc l + k) % suc l → (i < k) ⊎ (k ≤ i) → (d % suc l < r) ⊎ (suc l - d % suc l < r)
    by_order d i k hi hk same (inr h) =
        let split : (i - k) + k ≡ i = omega arith in
        let short : (i - k) % suc l ≡ d % suc l % suc l = mod_cancel l (i - k) (d % suc l) k (ap (λ n. n % suc l) split ∙ same) in
        inl (omega (arith, mod-mod d (suc l), mod-le (i - k) (suc l)))
    by_order d i k hi hk same (inl h) =
        let split : d % suc l + k ≡ (d % suc l + (k - i)) + i = omega arith in
        let whole : 0 % suc l ≡ (d % suc l + (k - i)) % suc l = mod_cancel l 0 (d % suc l + (k - i)) i (ap (λ n. n % suc l) (omega arith) ∙ same ∙ ap (λ n. n % suc l) split) in
        ⊎_elim
        (λ less. absurd (omega (arith, zero-mod (suc l), mod-eq_of_lt less)))
        (λ far. inr (omega arith))
        (cases_lt (d % suc l + (k - i)) (suc l))

    up : (a d : ℕ) → Meet (suc l) r a (a + d) → (d % suc l < r) ⊎ (suc l - d % suc l < r)
    up a d (i, k, hi, hk, same) = by_order d i k hi hk (reduced a d i k same) (cases_lt i k)

-- ---- the test

pub meet_told : (l r a b : ℕ) → Decides (ltb (distance l a b) r) (Meet l r a b)
meet_told zero r a b = Decides-like (ltb (apart a b) r) (near_meet 0 r a b) (meet_near r a b) (Decides-ltb (apart a b) r)
meet_told (suc l) r a b =
    let d : ℕ = apart a b % suc l in
    let round : distance (suc l) a b ≡ min d (suc l - d) = grind (arith, nat_tests) in
    Decides-at (ltb (distance (suc l) a b) r) (ltb (min d (suc l - d)) r) (ap (λ x. ltb x r) round)
    (Decides-like (ltb (min d (suc l - d)) r)
    (λ h. ⊎_elim (behind_meet (suc l) r a b (omega arith)) (ahead_meet (suc l) r a b (omega arith)) (shorter d (suc l - d) r h))
    (λ m. omega (arith, meet_round (suc l) r a b (omega arith) m)) (Decides-ltb (min d (suc l - d)) r))
  where
    shorter : (x y r : ℕ) → min x y < r → (x < r) ⊎ (y < r)
    shorter x y r h = grind arith
