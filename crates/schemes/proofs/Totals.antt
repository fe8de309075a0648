-- A total over the kinds, each beside its number, and one kind on.
use Rattle.std.proofs.Common.{◌≡◌, ℕ, zero, suc, ◌+◌, ◌<◌, ◌≤◌, List, [], ◌∷◌, length, get_or, drop, fold, sym, refl, ap, ◌∙◌, ap₂, add-one, arith}
use Rattle.std.specs.List.{zip, range_with_len}
use Rattle.std.proofs.lemmas.List.{drop_more, drop_all}
use Rattle.rules.specs.declared.kind.Kind.{Kind}
use Rattle.schemes.specs.Costs.{Meaning, total_from}

module _ {V : Type 0} (m : Meaning V) (count : ℕ → ℕ) where
  -- what is spent with the price of a kind, by its number
  abbrev pub spend : V → ℕ × Kind → V
  spend spent x = m.sum spent (m.price x.1 (count x.0))

  -- the kinds are numbered from k on, and there are numbers enough
  pub total_zip : (spent : V) (k top : ℕ) (ks : List Kind) → length ks ≤ top → fold spend spent (zip (range_with_len k top) ks) ≡ total_from m spent k ks count
  total_zip spent k zero [] few = refl
  total_zip spent k (suc top) [] few = refl
  total_zip spent k zero (kind ∷ ks) few = absurd (omega arith)
  total_zip spent k (suc top) (kind ∷ ks) few =
      total_zip (spend spent (k, kind)) (k + 1) top ks (omega arith) ∙ ap (λ i. total_from m (spend spent (k, kind)) i ks count) (add-one k)

module _ {V : Type 0} (m : Meaning V) (count : ℕ → ℕ) (ks : List Kind) where
  -- `kind` is the next, and `after` what is spent with the price of its units
  pub total_more : (spent after : V) (k n : ℕ) (kind : Kind) → k < length ks → kind ≡ get_or ks k kind → n ≡ count (k + 1) → after ≡ m.sum spent (m.price kind n)
      → total_from m after (k + 1 + 1) (drop (k + 1) ks) count ≡ total_from m spent (k + 1) (drop k ks) count
  total_more spent after k n kind h is counted added =
      let paid : after ≡ m.sum spent (m.price (get_or ks k kind) (count (k + 1))) = added ∙ ap₂ (λ x c. m.sum spent (m.price x c)) is counted in
      ap₂ (λ v i. total_from m v i (drop (k + 1) ks) count) paid (add-one (k + 1))
      ∙ ap (λ xs. total_from m spent (k + 1) xs count) (sym (drop_more ks k kind h))

  pub total_all : (spent : V) (k : ℕ) → length ks ≤ k → total_from m spent (k + 1) (drop k ks) count ≡ spent
  total_all spent k h = ap (λ xs. total_from m spent (k + 1) xs count) (drop_all k ks h)
