-- Going on behind a test, or refusing.
use Rattle.std.proofs.Common.{◌≡◌, ℕ, Bool, true, false, T, Err, Result, refl}
use Rattle.std.proofs.lemmas.Bool.{true≢false, false≢true}
use Rattle.rules.specs.declared.refusal.Refusal.{Refusal}
use Rattle.rules.specs.Refusals.{number, where_holds}

module _ {X : Type 0} (P : Result X ℕ → Type 0) where
  pub where_either : (b : Bool) (why : Refusal) (go : T b → Result X ℕ) → ((t : T b) → b ≡ true → P (go t)) → (b ≡ false → P (Err (number why))) → P (where_holds b why go)
  where_either true why go on off = on tt refl
  where_either false why go on off = off refl

  pub where_on : (b : Bool) (why : Refusal) (go : T b → Result X ℕ) → b ≡ true → ((t : T b) → P (go t)) → P (where_holds b why go)
  where_on true why go e on = on tt
  where_on false why go e on = absurd (false≢true e)

  pub where_off : (b : Bool) (why : Refusal) (go : T b → Result X ℕ) → b ≡ false → P (Err (number why)) → P (where_holds b why go)
  where_off true why go e off = absurd (true≢false e)
  where_off false why go e off = off
