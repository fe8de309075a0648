-- Taking the records of a file one by one, as the loader does.
use Rattle.std.proofs.Common.{Option, ◌≡◌, ℕ, zero, suc, ◌+◌, ◌-◌, ◌*◌, ◌<◌, ◌≤◌, ◌⊎◌, true, cond, ◌&&◌, eqb, ltb, List, [], ◌∷◌, ◌++◌, length, get_or, take, drop, Some, None, Ok, Err, Result, sym, refl, ap, ◌∙◌, subst, ap₂, arith, Bor}
use Rattle.std.proofs.lemmas.List.{length-drop, take_all, take-append-drop}
use Rattle.std.proofs.lemmas.Bool.{cond-true, cond-false, lt-ltb, le-ltb, eq-eqb, and_from}
use Rattle.std.proofs.lemmas.Bool.Decides.{nat_tests}
use Rattle.rules.specs.Files.{word, edit_of, with_record, with_records, loaded}
use Rattle.std.specs.Option.{ok_or}
use Rattle.std.specs.Result.{result_ok}
use Rattle.std.proofs.lemmas.Option.{none-some}
use Rattle.rules.specs.declared.refusal.Refusal.{Refusal}
use Rattle.jobfile.specs.declared.tag.Tag.{Tag}
use Rattle.jobfile.specs.Records.{Split, Tagged}
use Rattle.rules.specs.Jobs.{Job, fresh}
use Rattle.rules.proofs.Reading.{after_record}

-- the record that the code cuts off
pub split_there : (bytes : List ℕ) (n : ℕ) (s : Bor (List ℕ) × Bor (List ℕ)) → 2 ≤ length bytes → n ≡ get_or bytes 0 0 * 256 + get_or bytes 1 0
    → n ≤ length (take (length bytes - 2) (drop 2 bytes)) → s.0.now ≡ take n (take (length bytes - 2) (drop 2 bytes))
    → s.1.now ≡ drop n (take (length bytes - 2) (drop 2 bytes)) → Split bytes (Some s)
split_there [] n s two e fits front back = absurd (omega arith)
split_there (high ∷ []) n s two e fits front back = absurd (omega arith)
split_there (high ∷ (low ∷ rest)) n s two e fits front back =
    let size : n ≡ word high low = omega arith in
    let whole : take (suc (suc (length rest)) - 2) rest ≡ rest = take_all (suc (suc (length rest)) - 2) rest (omega arith) in
    (omega (arith, ap length whole), front ∙ ap₂ take size whole, back ∙ ap₂ drop size whole)

-- a file of version 1 that is not too long is its records
pub records_begun : (file : List ℕ) (j : Job) → 1 ≤ length file → get_or file 0 0 ≡ 1 → length file ≤ 4096 → j ≡ fresh
    → (with_records (length (take (length file - 1) (drop 1 file))) j (length file - length (take (length file - 1) (drop 1 file))) (take (length file - 1) (drop 1 file)) ≡ loaded file)
    × (length (take (length file - 1) (drop 1 file)) < length file)
records_begun [] j some version short new = absurd (omega arith)
records_begun (v ∷ rest) j some version short new =
    let whole : take (suc (length rest) - 1) rest ≡ rest = take_all (suc (length rest) - 1) rest (omega arith) in
    let P : List ℕ → Type 0 = λ xs. (with_records (length xs) j (suc (length rest) - length xs) xs ≡ loaded (v ∷ rest)) × (length xs < suc (length rest)) in
    let one : suc (length rest) - length rest ≡ 1 = omega arith in
    let test : (eqb v 1 && ltb (length rest) 4096) ≡ true = and_from _ _ (eq-eqb v 1 version) (lt-ltb (length rest) 4096 (omega arith)) in
    subst P (sym whole) (ap₂ (λ k at. with_records (length rest) k at rest) new one ∙ sym (cond-true (eqb v 1 && ltb (length rest) 4096) _ _ test), omega arith)

-- more turns than there are bytes change nothing
pub enough : (m n : ℕ) (j : Job) (o : ℕ) (bytes : List ℕ) → length bytes ≤ m → length bytes ≤ n → with_records m j o bytes ≡ with_records n j o bytes
enough zero zero j o bytes a b = refl
enough zero (suc n) j o [] a b = refl
enough zero (suc n) j o (x ∷ bytes) a b = absurd (omega arith)
enough (suc m) zero j o [] a b = refl
enough (suc m) zero j o (x ∷ bytes) a b = absurd (omega arith)
enough (suc m) (suc n) j o [] a b = refl
enough (suc m) (suc n) j o (high ∷ []) a b = refl
enough (suc m) (suc n) j o (high ∷ (low ∷ rest)) a b =
    ap (cond (ltb (length rest) (word high low)) (Err (6, o))) (by_result (enough m n) (with_record j (take (word high low) rest)))
  where
    by_result : ((k : Job) (at : ℕ) (more : List ℕ) → length more ≤ m → length more ≤ n → with_records m k at more ≡ with_records n k at more) →
        (r : Result Job ℕ) → after_record m o (o + 2 + word high low) (drop (word high low) rest) r ≡ after_record n o (o + 2 + word high low) (drop (word high low) rest) r
    by_result others (Err why) = refl
    by_result others (Ok k) =
        others k (o + 2 + word high low) (drop (word high low) rest) (simp length-drop (omega arith)) (simp length-drop (omega arith))

module _ (j : Job) (o : ℕ) where
  pub record_torn : (bytes : List ℕ) → 1 ≤ length bytes → Split bytes None → Err (6, o) ≡ with_records (length bytes) j o bytes
  record_torn [] some cut = absurd (omega arith)
  record_torn (high ∷ []) some cut = refl
  record_torn (high ∷ (low ∷ rest)) some cut = sym (cond-true (ltb (length rest) (word high low)) _ _ (lt-ltb (length rest) (word high low) cut))

  -- past the test of the length
  whole_record : (high low : ℕ) (rest : List ℕ) → word high low ≤ length rest → (r : Result Job ℕ) → with_record j (take (word high low) rest) ≡ r
      → with_records (suc (suc (length rest))) j o (high ∷ (low ∷ rest))
      ≡ after_record (suc (length rest)) o (o + 2 + word high low) (drop (word high low) rest) r
  whole_record high low rest fits r e =
      cond-false (ltb (length rest) (word high low)) _ _ (le-ltb (length rest) (word high low) fits)
      ∙ ap (after_record (suc (length rest)) o (o + 2 + word high low) (drop (word high low) rest)) e

  pub record_at_fault : (bytes : List ℕ) (s : Bor (List ℕ) × Bor (List ℕ)) (why : ℕ) → Split bytes (Some s) → with_record j s.0.now ≡ Err why
      → Err (why, o) ≡ with_records (length bytes) j o bytes
  record_at_fault [] s why split e = let z : ◌≡◌ {A = ℕ} 0 1 = cc in absurd (omega arith)
  record_at_fault (high ∷ []) s why split e = let z : ◌≡◌ {A = ℕ} 0 1 = cc in absurd (omega arith)
  record_at_fault (high ∷ (low ∷ rest)) s why split e =
      sym (whole_record high low rest split.0 (Err why) (ap (with_record j) (sym split.1) ∙ e))

  pub record_taken : (bytes : List ℕ) (s : Bor (List ℕ) × Bor (List ℕ)) (k : Job) (at : ℕ) → Split bytes (Some s) → with_record j s.0.now ≡ Ok k
      → at + length s.1.now ≡ o + length bytes → with_records (length s.1.now) k at s.1.now ≡ with_records (length bytes) j o bytes
  record_taken [] s k at split e moved = let z : ◌≡◌ {A = ℕ} 0 1 = cc in absurd (omega arith)
  record_taken (high ∷ []) s k at split e moved = let z : ◌≡◌ {A = ℕ} 0 1 = cc in absurd (omega arith)
  record_taken (high ∷ (low ∷ rest)) s k at split e moved =
      let n : ℕ = word high low in
      let size : length s.1.now ≡ length rest - n = ap length split.2 ∙ length-drop n rest in
      let there : at ≡ o + 2 + n = omega (arith, split.0) in
      enough (length s.1.now) (suc (length rest)) k at s.1.now (omega arith) (omega arith)
      ∙ ap₂ (λ i xs. with_records (suc (length rest)) k i xs) there split.2
      ∙ sym (whole_record high low rest split.0 (Ok k) (ap (with_record j) (sym split.1) ∙ e))

  pub shorter : (bytes : List ℕ) (s : Bor (List ℕ) × Bor (List ℕ)) → Split bytes (Some s) → length s.1.now < length bytes
  shorter [] s split = let z : ◌≡◌ {A = ℕ} 0 1 = cc in absurd (omega arith)
  shorter (high ∷ []) s split = let z : ◌≡◌ {A = ℕ} 0 1 = cc in absurd (omega arith)
  shorter (high ∷ (low ∷ rest)) s split = omega (arith, ap length split.2, length-drop (word high low) rest)

-- behind the length, the bytes are the body and what follows it
pub split_parts : (bytes : List ℕ) (s : Bor (List ℕ) × Bor (List ℕ)) → Split bytes (Some s) → drop 2 bytes ≡ s.0.now ++ s.1.now
split_parts [] s split = absurd (none-some s (sym split))
split_parts (high ∷ []) s split = absurd (none-some s (sym split))
split_parts (high ∷ (low ∷ rest)) s split = sym (ap₂ ◌++◌ split.1 split.2 ∙ take-append-drop (word high low) rest)

-- the first byte is no tag
pub untagged : (body : List ℕ) → 1 ≤ length body → (get_or body 0 0 ≡ 0) ⊎ (4 < get_or body 0 0) → None ≡ edit_of body
untagged [] some none = absurd (omega arith)
untagged (tag ∷ fields) some none = grind (arith, nat_tests)

pub no_tag : (byte : ℕ) (r : Result Tag Refusal) → Tagged byte r → result_ok r ≡ None → (byte ≡ 0) ⊎ (4 < byte)
no_tag byte (Ok tag) told e = absurd (none-some tag (sym e))
no_tag byte (Err why) told e = told.1

pub was_some : {X E : Type 0} (e : E) {x : X} (o : Option X) → ok_or o e ≡ Ok x → o ≡ Some x
was_some e None is = absurd (cc)
was_some e {x = x} (Some y) is = let same : y ≡ x = cc in ap Some same
