-- Counting by different numbers.
use Rattle.std.specs.Prelude.{◌≡◌, ℕ, zero, suc, ◌+◌, ◌*◌, ◌/◌, ◌%◌, ◌<◌, ◌≤◌, cond, ◌==◌}
use Rattle.std.proofs.Common.{zero-le, sym, ap, ◌∙◌, arith}
use Rattle.std.proofs.lemmas.Bool.Decides.{nat_tests}
use Rattle.std.proofs.lemmas.Nat.{div-add-mod', mul-add-lt, div-mul-add, mod-mul-add, div_below, mod_below}

-- n different numbers below b
pub record Different (n b : ℕ) (f : ℕ → ℕ) : Type 0 where
  pub below : (i : ℕ) → i < n → f i < b
  pub apart : (i k : ℕ) → i < n → k < n → f i ≡ f k → i ≡ k

-- f, with its last value in the place of b
abbrev filled : ℕ → ℕ → (ℕ → ℕ) → ℕ → ℕ
filled n b f i = cond (f i == b) (f n) (f i)

filled_different : (n b : ℕ) (f : ℕ → ℕ) → Different (suc n) (suc b) f → Different n b (filled n b f)
filled_different n b f d = record {
  below = λ i h. grind (arith, nat_tests, d.below i (omega arith), d.below n (omega arith), last i h);
  apart = λ i k h h' e. grind (arith, nat_tests, last i h, last k h', d.apart i k (omega arith) (omega arith));
}
  where
    last : (i : ℕ) → i < n → f i ≡ f n → i ≡ n
    last i h = d.apart i n (omega arith) (omega arith)

pub pigeonhole : (n b : ℕ) (f : ℕ → ℕ) → Different n b f → n ≤ b
pigeonhole zero b f d = zero-le
pigeonhole (suc n) zero f d = omega (arith, d.below 0 (omega arith))
pigeonhole (suc n) (suc b) f d = omega (arith, pigeonhole n b (filled n b f) (filled_different n b f d))

-- n things of r parts each, the parts in different cells of u rows of w cells
pub record Packed (n r u w : ℕ) (row : ℕ → ℕ) (cell : ℕ → ℕ → ℕ) : Type 0 where
  pub in_row : (c : ℕ) → c < n → row c < u
  pub in_cell : (c i : ℕ) → c < n → i < r → cell c i < w
  pub apart : (c d i k : ℕ) → c < n → d < n → i < r → k < r → row c ≡ row d → cell c i ≡ cell d k → (c ≡ d) × (i ≡ k)

-- where a row has w cells, a place tells the row and the cell
same_place : (w a b c d : ℕ) → b < w → d < w → a * w + b ≡ c * w + d → (a ≡ c) × (b ≡ d)
same_place w a b c d h h' e = (
  sym (div-mul-add a w b h) ∙ ap (λ z. z / w) e ∙ div-mul-add c w d h',
  sym (mod-mul-add a w b h) ∙ ap (λ z. z % w) e ∙ mod-mul-add c w d h',
)

module _ {n r u w : ℕ} {row : ℕ → ℕ} {cell : ℕ → ℕ → ℕ} (p : Packed n r u w row cell) (some : 0 < r) where
  -- where part x % r of the thing x / r lies
  abbrev place : ℕ → ℕ
  place x = row (x / r) * w + cell (x / r) (x % r)

  thing_below : (x : ℕ) → x < n * r → x / r < n
  thing_below x h = div_below x r n some h

  cell_below : (x : ℕ) → x < n * r → cell (x / r) (x % r) < w
  cell_below x h = p.in_cell (x / r) (x % r) (thing_below x h) (mod_below x r some)

  place_apart : (x y : ℕ) → x < n * r → y < n * r → place x ≡ place y → x ≡ y
  place_apart x y h h' e =
      let at = same_place w (row (x / r)) (cell (x / r) (x % r)) (row (y / r)) (cell (y / r) (y % r)) (cell_below x h) (cell_below y h') e in
      let one = p.apart (x / r) (y / r) (x % r) (y % r) (thing_below x h) (thing_below y h') (mod_below x r some) (mod_below y r some) at.0 at.1 in
      sym (div-add-mod' x r) ∙ cc (one.0, one.1) ∙ div-add-mod' y r

  pub packed : n * r ≤ w * u
  packed =
      pigeonhole (n * r) (w * u) place (record {
        below = λ x h. mul-add-lt (row (x / r)) w (cell (x / r) (x % r)) u (p.in_row (x / r) (thing_below x h)) (cell_below x h);
        apart = place_apart;
      })
