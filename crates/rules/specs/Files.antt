-- The job file: a version byte, then records, each its length in two bytes, a tag and fields.
use Rattle.std.specs.Prelude.{◌≡◌, ℕ, zero, suc, ◌+◌, ◌*◌, ◌<◌, ◌≤◌, cond, ◌&&◌, ◌⊎◌, List, [], ◌∷◌, ◌++◌, length, take, drop, Some, None, Ok, Err, Option, Result, ◌==◌, ◌≢◌, nat_lt, slice_index}
use Rattle.rules.specs.declared.edit.Edit.{Edit}
use Rattle.rules.specs.declared.edit.Edit.TheVariants.{AddKind, AddLibraryKind, AddOperation, SetLimits}
use Rattle.rules.specs.declared.kind.Figures.{Figures}
use Rattle.rules.specs.declared.operation.Operation.{Operation}
use Rattle.rules.specs.declared.refusal.Refusal.TheVariants.{NotAJobFile, TornRecord, UnknownRecord}
use Rattle.rules.specs.Jobs.{Job, fresh}
use Rattle.rules.specs.Edits.{edited}
use Rattle.rules.specs.Refusals.{number}

-- two bytes as a number, the higher first
abbrev pub word : ℕ → ℕ → ℕ
word high low = 256 * high + low

-- the fields of a kind, and of an operation
abbrev pub figures : ℕ → ℕ → ℕ → ℕ → ℕ → Figures
figures d r c a w = record { duration = d; busy = r; cap = c; area = a; draw = w }

abbrev pub operation : ℕ → ℕ → ℕ → Operation
operation k a b = record { kind = k; left = a; right = b }

-- ---- how a file is loaded

-- the edit that a record stands for, given without its length: a tag and its fields
abbrev pub edit_of : List ℕ → Option Edit
edit_of [] = None
edit_of (tag ∷ fs) =
    cond (tag == 1 && length fs == 7)
    (Some (AddKind (figures (slice_index fs 0) (slice_index fs 1) (slice_index fs 2) (word (slice_index fs 3) (slice_index fs 4)) (word (slice_index fs 5) (slice_index fs 6)))))
    (cond (tag == 2 && length fs == 3) (Some (AddOperation (operation (slice_index fs 0) (slice_index fs 1) (slice_index fs 2))))
    (cond (tag == 3 && length fs == 2) (Some (SetLimits (slice_index fs 0) (slice_index fs 1)))
    (cond (tag == 4 && length fs == 2) (Some (AddLibraryKind (slice_index fs 0) (slice_index fs 1)))
    None)))

abbrev pub with_edit : Job → Option Edit → Result Job ℕ
with_edit j None = Err (number UnknownRecord)
with_edit j (Some e) = edited j e

abbrev pub with_record : Job → List ℕ → Result Job ℕ
with_record j body = with_edit j (edit_of body)

-- the records from an offset on: refused with the offset of the first that is at fault; `most` is at least their number
abbrev pub with_records : ℕ → Job → ℕ → List ℕ → Result Job (ℕ × ℕ)
with_records zero j o bytes = Ok j
with_records (suc most) j o [] = Ok j
with_records (suc most) j o (high ∷ []) = Err (number TornRecord, o)
with_records (suc most) j o (high ∷ low ∷ rest) =
    cond (nat_lt (length rest) (word high low)) (Err (number TornRecord, o))
    (elim (with_record j (take (word high low) rest)) [
      | Err why ↦ Err (why, o)
      | Ok k ↦ with_records most k (o + 2 + word high low) (drop (word high low) rest)
    ])

-- the job that a file stands for, or the number of its refusal and the offset
abbrev pub loaded : List ℕ → Result Job (ℕ × ℕ)
loaded [] = Err (number NotAJobFile, 0)
loaded (version ∷ rest) =
    cond (version == 1 && nat_lt (length rest) 4096) (with_records (length rest) fresh 1 rest) (Err (number NotAJobFile, 0))

-- ---- what a file says

-- a record's tag and fields stand for an edit
pub data StandsFor : List ℕ → Edit → Type 0 where
  kind : (d r c area_high area_low draw_high draw_low : ℕ) →
      StandsFor (1 ∷ d ∷ r ∷ c ∷ area_high ∷ area_low ∷ draw_high ∷ draw_low ∷ [])
      (AddKind (figures d r c (word area_high area_low) (word draw_high draw_low)))
  row : (k a b : ℕ) → StandsFor (2 ∷ k ∷ a ∷ b ∷ []) (AddOperation (operation k a b))
  limits : (t l : ℕ) → StandsFor (3 ∷ t ∷ l ∷ []) (SetLimits t l)
  library_kind : (n c : ℕ) → StandsFor (4 ∷ n ∷ c ∷ []) (AddLibraryKind n c)

-- what reading the records from an offset on comes to, record by record, each as long as its length says
pub data Reads : Job → ℕ → List ℕ → Result Job (ℕ × ℕ) → Type 0 where
  ended : {j : Job} {o : ℕ} → Reads j o [] (Ok j)
  no_length : {j : Job} {o high : ℕ} → Reads j o (high ∷ []) (Err (6, o))
  cut_short : {j : Job} {o high low : ℕ} {rest : List ℕ} → length rest < word high low → Reads j o (high ∷ low ∷ rest) (Err (6, o))
  unknown : {j : Job} {o high low : ℕ} (body rest : List ℕ) → length body ≡ word high low → ((e : Edit) → StandsFor body e → ⊥)
      → Reads j o (high ∷ low ∷ (body ++ rest)) (Err (7, o))
  refused : {j : Job} {o high low why : ℕ} {e : Edit} (body rest : List ℕ) → length body ≡ word high low → StandsFor body e → edited j e ≡ Err why
      → Reads j o (high ∷ low ∷ (body ++ rest)) (Err (why, o))
  accepted : {j k : Job} {o high low : ℕ} {e : Edit} {r : Result Job (ℕ × ℕ)} (body rest : List ℕ) → length body ≡ word high low → StandsFor body e
      → edited j e ≡ Ok k → Reads k (o + 2 + length body) rest r → Reads j o (high ∷ low ∷ (body ++ rest)) r

-- what a file comes to: a new job with its records
pub data Loads : List ℕ → Result Job (ℕ × ℕ) → Type 0 where
  no_file : (bytes : List ℕ) → (bytes ≡ []) ⊎ ((4096 < length bytes) ⊎ (slice_index bytes 0 ≢ 1)) → Loads bytes (Err (5, 0))
  records : {rest : List ℕ} {r : Result Job (ℕ × ℕ)} → length (1 ∷ rest) ≤ 4096 → Reads fresh 1 rest r → Loads (1 ∷ rest) r
