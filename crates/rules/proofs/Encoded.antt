-- The bytes that stand for edits load as the edits, made one by one.
use Rattle.std.proofs.Common.{◌≡◌, ℕ, zero, suc, ◌+◌, ◌≤◌, ltb, List, [], ◌∷◌, ◌++◌, length, drop, Some, Ok, Err, Result, refl, ap, ◌∙◌, arith, length-append}
use native.Mathlib.Nat.{div-add-mod}
use Rattle.std.proofs.lemmas.List.{take_at, drop_at}
use Rattle.std.proofs.lemmas.Bool.{cond-true, cond-false, lt-ltb, le-ltb}
use Rattle.rules.specs.declared.edit.Edit.{Edit}
use Rattle.rules.specs.declared.edit.Edit.TheVariants.{AddKind, AddLibraryKind, AddOperation, SetLimits}
use Rattle.rules.specs.declared.kind.Figures.{Figures}
use Rattle.rules.specs.Jobs.{Job}
use Rattle.rules.specs.Edits.{edited}
use Rattle.rules.specs.Files.{word, figures, edit_of, with_edit, with_record, with_records}
use Rattle.rules.specs.Encoding.{two_bytes, record_of, records_of, one_by_one, FilesStandForEdits}
use Rattle.rules.proofs.Reading.{after_record}

-- one record, whose tag and fields are read as an edit, and what follows it
one_record : (most : ℕ) (j : Job) (o next high low : ℕ) (body rest : List ℕ) (e : Edit) → length body ≡ word high low → next ≡ o + 2 + word high low →
    edit_of body ≡ Some e → with_records (suc most) j o (high ∷ (low ∷ (body ++ rest))) ≡ after_record most o next rest (edited j e)
one_record most j o next high low body rest e size offset h =
    let fits : word high low ≤ length (body ++ rest) = omega (arith, length-append body rest) in
    cond-false (ltb (length (body ++ rest)) (word high low)) _ _ (le-ltb (length (body ++ rest)) (word high low) fits)
    ∙ ap (λ b. after_record most o (o + 2 + word high low) (drop (word high low) (body ++ rest)) (with_record j b)) (take_at body rest (word high low) size)
    ∙ ap (λ x. after_record most o (o + 2 + word high low) (drop (word high low) (body ++ rest)) (with_edit j x)) h
    ∙ ap (λ tail. after_record most o (o + 2 + word high low) tail (edited j e)) (drop_at body rest (word high low) size)
    ∙ ap (λ n. after_record most o n rest (edited j e)) (omega arith)

-- the tag and the fields of a kind
abbrev kind_body : Figures → List ℕ
kind_body f = 1 ∷ (f.duration ∷ (f.busy ∷ (f.cap ∷ two_bytes f.area (two_bytes f.draw []))))

kind_read : (f : Figures) → edit_of (kind_body f) ≡ Some (AddKind f)
kind_read f = λ i. Some (AddKind (figures f.duration f.busy f.cap (div-add-mod f.area 256 i) (div-add-mod f.draw 256 i)))

edit_record : (most : ℕ) (j : Job) (o : ℕ) (e : Edit) (rest : List ℕ) →
    with_records (suc most) j o (record_of e ++ rest) ≡ after_record most o (o + length (record_of e)) rest (edited j e)
edit_record most j o (AddKind f) rest = one_record most j o _ 0 8 (kind_body f) rest (AddKind f) refl (omega arith) (kind_read f)
edit_record most j o (AddOperation p) rest =
    one_record most j o _ 0 4 (2 ∷ (p.kind ∷ (p.left ∷ (p.right ∷ [])))) rest (AddOperation p) refl (omega arith) refl
edit_record most j o (SetLimits t l) rest = one_record most j o _ 0 3 (3 ∷ (t ∷ (l ∷ []))) rest (SetLimits t l) refl (omega arith) refl
edit_record most j o (AddLibraryKind n c) rest = one_record most j o _ 0 3 (4 ∷ (n ∷ (c ∷ []))) rest (AddLibraryKind n c) refl (omega arith) refl

some_bytes : (e : Edit) → 1 ≤ length (record_of e)
some_bytes (AddKind f) = omega arith
some_bytes (AddOperation o) = omega arith
some_bytes (SetLimits t l) = omega arith
some_bytes (AddLibraryKind n c) = omega arith

edit_records : (most : ℕ) (j : Job) (o : ℕ) (es : List Edit) → length (records_of es) ≤ most → with_records most j o (records_of es) ≡ one_by_one j o es
edit_records zero j o [] h = refl
edit_records (suc most) j o [] h = refl
edit_records zero j o (e ∷ es) h = absurd (omega (arith, some_bytes e, length-append (record_of e) (records_of es)))
edit_records (suc most) j o (e ∷ es) h =
    edit_record most j o e (records_of es)
    ∙ by_result (λ k. edit_records most k next es (omega (arith, some_bytes e, length-append (record_of e) (records_of es)))) (edited j e)
  where
    next : ℕ
    next = o + length (record_of e)

    by_result : ((k : Job) → with_records most k next (records_of es) ≡ one_by_one k next es) → (r : Result Job ℕ) →
        after_record most o next (records_of es) r ≡ elim r [ Err why ↦ Err (why, o) | Ok k ↦ one_by_one k next es ]
    by_result others (Err why) = refl
    by_result others (Ok k) = others k

pub files_stand_for_edits : FilesStandForEdits
files_stand_for_edits es h =
    cond-true (ltb (length (records_of es)) 4096) _ _ (lt-ltb (length (records_of es)) 4096 h)
    ∙ edit_records (length (records_of es)) _ 1 es (omega arith)
