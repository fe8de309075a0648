-- A job file is read record by record to its end, and what it loads is a valid job.
use Rattle.std.proofs.Common.{◌≡◌, ℕ, zero, suc, ◌+◌, ◌<◌, ◌≤◌, true, false, ◌&&◌, eqb, ltb, ◌⊎◌, List, [], ◌∷◌, length, get_or, take, drop, Some, None, Ok, Err, Option, Result, sym, refl, ap, ◌∙◌, subst, inl, inr, arith, length-drop, take-append-drop, length-take-le}
use Rattle.std.proofs.lemmas.Option.{none-some, same_Some}
use Rattle.std.proofs.lemmas.Bool.{cond_both, ltb-true, ltb-false, and_parts, eqb-true}
use Rattle.std.proofs.lemmas.Bool.Decides.{nat_tests}
use Rattle.rules.specs.declared.edit.Edit.{Edit}
use Rattle.rules.specs.Jobs.{Job, Valid, fresh}
use Rattle.rules.specs.Edits.{edited}
use Rattle.rules.specs.Files.{
  word,
  edit_of,
  with_edit,
  with_records,
  loaded,
  StandsFor,
  kind,
  row,
  limits,
  library_kind,
  Reads,
  ended,
  no_length,
  cut_short,
  unknown,
  refused,
  accepted,
  Loads,
  no_file,
  records,
}
use Rattle.rules.proofs.Changing.{LeavesValid, edited_valid, fresh_valid}

-- ---- the edit that a record stands for

-- n elements from index i on, as `get_or` reads them
abbrev read_from : ℕ → ℕ → List ℕ → List ℕ
read_from zero i xs = []
read_from (suc n) i xs = get_or xs i 0 ∷ read_from n (suc i) xs

read_later : (n i x : ℕ) (xs : List ℕ) → read_from n (suc i) (x ∷ xs) ≡ read_from n i xs
read_later zero i x xs = refl
read_later (suc n) i x xs = ap (λ rest. get_or xs i 0 ∷ rest) (read_later n (suc i) x xs)

read_all : (n : ℕ) (xs : List ℕ) → length xs ≡ n → read_from n 0 xs ≡ xs
read_all zero [] h = refl
read_all zero (x ∷ xs) h = absurd (omega arith)
read_all (suc n) [] h = absurd (omega arith)
read_all (suc n) (x ∷ xs) h = ap (λ rest. x ∷ rest) (read_later n 0 x xs ∙ read_all n xs (omega arith))

stands : (body : List ℕ) (e : Edit) → edit_of body ≡ Some e → StandsFor body e
stands [] e h = absurd (none-some e h)
stands (tag ∷ fs) e h =
    cond_both (eqb tag 1 && eqb (length fs) 7) _ _ P
    (fits 1 7 _ (kind _ _ _ _ _ _ _))
    (λ _. cond_both (eqb tag 2 && eqb (length fs) 3) _ _ P
    (fits 2 3 _ (row _ _ _))
    (λ _. cond_both (eqb tag 3 && eqb (length fs) 2) _ _ P
    (fits 3 2 _ (limits _ _))
    (λ _. cond_both (eqb tag 4 && eqb (length fs) 2) _ _ P
    (fits 4 2 _ (library_kind _ _))
    (λ _ g. absurd (none-some e g))))) h
  where
    P : Option Edit → Type 0
    P o = o ≡ Some e → StandsFor (tag ∷ fs) e

    fits : (n size : ℕ) (x : Edit) → StandsFor (n ∷ read_from size 0 fs) x → (eqb tag n && eqb (length fs) size) ≡ true → Some x ≡ Some e → StandsFor (tag ∷ fs) e
    fits n size x s test same =
        let both = and_parts (eqb tag n) (eqb (length fs) size) test in
        subst (λ y. StandsFor (tag ∷ fs) y) (same_Some x e same)
        (subst (λ t. StandsFor (t ∷ fs) x) (sym (eqb-true tag n both.0))
        (subst (λ ys. StandsFor (n ∷ ys) x) (read_all size fs (eqb-true (length fs) size both.1)) s))

stood : {body : List ℕ} {e : Edit} → StandsFor body e → edit_of body ≡ Some e
stood (kind d r c area_high area_low draw_high draw_low) = refl
stood (row k a b) = refl
stood (limits t l) = refl
stood (library_kind n c) = refl

-- what `edit_of` finds is what the record stands for
abbrev Says : List ℕ → Option Edit → Type 0
Says body None = (e : Edit) → StandsFor body e → ⊥
Says body (Some e) = StandsFor body e

says : (body : List ℕ) → Says body (edit_of body)
says body = go (edit_of body) refl
  where
    go : (o : Option Edit) → edit_of body ≡ o → Says body o
    go None h = λ e s. none-some e (sym h ∙ stood s)
    go (Some e) h = stands body e h

-- ---- the records

-- what follows a record at the offset o, which came to a job or was refused: the `tail`, at the offset `next`
abbrev pub after_record : ℕ → ℕ → ℕ → List ℕ → Result Job ℕ → Result Job (ℕ × ℕ)
after_record most o next tail (Err why) = Err (why, o)
after_record most o next tail (Ok k) = with_records most k next tail

records_read : (most : ℕ) (j : Job) (o : ℕ) (bytes : List ℕ) → length bytes ≤ most → Reads j o bytes (with_records most j o bytes)
records_read zero j o [] h = ended
records_read zero j o (b ∷ bytes) h = absurd (omega arith)
records_read (suc most) j o [] h = ended
records_read (suc most) j o (high ∷ []) h = no_length
records_read (suc most) j o (high ∷ (low ∷ rest)) h =
    cond_both (ltb (length rest) n) _ _ (Reads j o (high ∷ (low ∷ rest)))
    (λ e. cut_short (ltb-true (length rest) n e))
    (λ e. by_edit (records_read most) (ltb-false (length rest) n e) (edit_of (take n rest)) (says (take n rest)))
  where
    n : ℕ
    n = word high low

    ComesTo : List ℕ → Result Job (ℕ × ℕ) → Type 0
    ComesTo bytes r = Reads j o (high ∷ (low ∷ bytes)) r

    by_edit : ((k : Job) (at : ℕ) (bytes : List ℕ) → length bytes ≤ most → Reads k at bytes (with_records most k at bytes)) → n ≤ length rest →
        (x : Option Edit) → Says (take n rest) x → ComesTo rest (after_record most o (o + 2 + n) (drop n rest) (with_edit j x))
    by_edit others fits None none =
        subst (λ bytes. ComesTo bytes (Err (7, o))) (take-append-drop n rest)
        (unknown (take n rest) (drop n rest) (length-take-le n rest fits) none)
    by_edit others fits (Some e) s = by_result (edited j e) refl
      where
        size : length (take n rest) ≡ n
        size = length-take-le n rest fits

        by_result : (r : Result Job ℕ) → edited j e ≡ r → ComesTo rest (after_record most o (o + 2 + n) (drop n rest) r)
        by_result (Err why) is =
            subst (λ bytes. ComesTo bytes (Err (why, o))) (take-append-drop n rest) (refused (take n rest) (drop n rest) size s is)
        by_result (Ok k) is =
            let R : Result Job (ℕ × ℕ) = with_records most k (o + 2 + n) (drop n rest) in
            let more : Reads k (o + 2 + n) (drop n rest) R = others k (o + 2 + n) (drop n rest) (simp length-drop (omega arith)) in
            subst (λ bytes. ComesTo bytes R) (take-append-drop n rest)
            (accepted (take n rest) (drop n rest) size s is (subst (λ x. Reads k (o + 2 + x) (drop n rest) R) (sym size) more))

pub files_are_read : (bytes : List ℕ) → Loads bytes (loaded bytes)
files_are_read [] = no_file [] (inl refl)
files_are_read (version ∷ rest) =
    cond_both (eqb version 1 && ltb (length rest) 4096) _ _ (Loads (version ∷ rest))
    (λ e.
    let both = and_parts (eqb version 1) (ltb (length rest) 4096) e in
    subst (λ v. Loads (v ∷ rest) (with_records (length rest) fresh 1 rest)) (sym (eqb-true version 1 both.0))
    (records (ltb-true (length rest) 4096 both.1) (records_read (length rest) fresh 1 rest (omega arith))))
    (λ e. no_file (version ∷ rest) (inr (at_fault_by e)))
  where
    at_fault_by : (eqb version 1 && ltb (length rest) 4096) ≡ false → (4096 < suc (length rest)) ⊎ (version ≡ 1 → ⊥)
    at_fault_by e = grind (arith, nat_tests)

-- ---- what is read is a valid job

reads_valid : {j : Job} {o : ℕ} {bytes : List ℕ} {r : Result Job (ℕ × ℕ)} → Reads j o bytes r → Valid j → LeavesValid r
reads_valid ended valid = valid
reads_valid no_length valid = tt
reads_valid (cut_short h) valid = tt
reads_valid (unknown body rest size none) valid = tt
reads_valid (refused body rest size s h) valid = tt
reads_valid {j} (accepted {e = e} body rest size s h more) valid = reads_valid more (subst LeavesValid h (edited_valid j valid e))

loads_valid : {bytes : List ℕ} {r : Result Job (ℕ × ℕ)} → Loads bytes r → LeavesValid r
loads_valid (no_file bytes why) = tt
loads_valid (records few reads) = reads_valid reads fresh_valid

pub loaded_valid : (bytes : List ℕ) → LeavesValid (loaded bytes)
loaded_valid bytes = loads_valid (files_are_read bytes)
