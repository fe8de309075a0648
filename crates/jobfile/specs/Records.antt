-- What the reader of a file answers: a tag, a record cut off from the bytes, and what taking a record makes of the tables.
use Rattle.std.specs.Prelude.{◌≡◌, ℕ, ◌+◌, ◌-◌, ◌<◌, ◌≤◌, ◌⊎◌, List, [], ◌∷◌, ◌++◌, length, take, drop, Some, None, Ok, Err, Option, Result, MatchResult}
use Rattle.std.specs.Borrow.{Bor}
use Rattle.rules.specs.declared.refusal.Refusal.{Refusal}
use Rattle.rules.specs.declared.refusal.Refusal.TheVariants.{UnknownRecord}
use Rattle.rules.specs.Files.{word, with_record, with_records}
use Rattle.rules.specs.Jobs.{Job}
use Rattle.rules.specs.Refusals.{number}
use Rattle.jobfile.specs.declared.tag.Tag.{Tag}
use Rattle.jobfile.specs.declared.tag.Tag.TheVariants.{Kind, Operation, Limits, LibraryKind}

abbrev pub byte_of : Tag → ℕ
byte_of Kind = 1
byte_of Operation = 2
byte_of Limits = 3
byte_of LibraryKind = 4

-- the tag of this byte, or a refusal of a byte that is none's
abbrev pub Tagged : ℕ → Result Tag Refusal → Type 0
Tagged byte r = MatchResult r (λ tag. byte_of tag ≡ byte) (λ why. (why ≡ UnknownRecord) × ((byte ≡ 0) ⊎ (4 < byte)))

-- the bytes begin with a record of this body, and the others follow it; or there is no whole record
abbrev pub Split : List ℕ → Option (Bor (List ℕ) × Bor (List ℕ)) → Type 0
Split [] r = r ≡ None
Split (high ∷ []) r = r ≡ None
Split (high ∷ low ∷ rest) None = length rest < word high low
Split (high ∷ low ∷ rest) (Some s) =
    (word high low ≤ length rest) × (s.0.now ≡ take (word high low) rest) × (s.1.now ≡ drop (word high low) rest)

-- Taking the first record of the bytes made k of j, as its body says, and wherever the bytes stand in a file, what follows makes of k
-- what they make of j; or it is at fault, and so are they, and k is j.
abbrev pub Takes : Job → List ℕ → Result (Bor (List ℕ)) Refusal → Job → Type 0
Takes j bytes (Ok after) k =
    ((body : List ℕ) × (drop 2 bytes ≡ body ++ after.now) × (with_record j body ≡ Ok k))
    × (length after.now < length bytes)
    × ((o : ℕ) → with_records (length after.now) k (o + (length bytes - length after.now)) after.now ≡ with_records (length bytes) j o bytes)
Takes j bytes (Err why) k = (k ≡ j) × ((o : ℕ) → Err (number why, o) ≡ with_records (length bytes) j o bytes)
