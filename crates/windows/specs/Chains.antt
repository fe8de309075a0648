-- Stays that are linked by the step where they begin.
use Rattle.std.specs.Prelude.{◌≡◌, ℕ, zero, suc, ◌<◌, ◌≤◌, cond, List, length, map, Some, None, Option, ◌==◌, slice_index_or}
use Rattle.std.proofs.Common.{lit≤}
use Rattle.windows.specs.declared.stay.Stay.{Stay}
use Rattle.windows.specs.declared.stays.Linked.{Linked}

abbrev pub stays_of : List Linked → List Stay
stays_of ls = map (λ l. l.stay) ls

-- what stands past a list's end
abbrev pub no_stay : Stay
no_stay = record { begin = 0; end = 0; begin_range = lit≤ tt; end_range = lit≤ tt }

-- where stay i begins, counted from 0
abbrev pub begin_at : List Stay → ℕ → ℕ
begin_at ts i = (slice_index_or ts i no_stay).begin

-- the number, from 1, of the last of the first n stays that begins at s, 0 if there is none
abbrev pub last_at : List Stay → ℕ → ℕ → ℕ
last_at ts s zero = 0
last_at ts s (suc n) = cond (begin_at ts n == s) (suc n) (last_at ts s n)

-- the number of an index, 0 for none
abbrev pub number_of : Option ℕ → ℕ
number_of None = 0
number_of (Some i) = suc i

-- `last` has the index of that stay for each step
abbrev pub Starts : List (Option ℕ) → List Linked → Type 0
Starts last ls = (s : ℕ) → s ≤ 64 → number_of (slice_index_or last s None) ≡ last_at (stays_of ls) s (length ls)

-- each stay is linked to the one before it that begins at the same step
abbrev pub Links : List Linked → Type 0
Links ls =
    (i : ℕ) (d : Linked) → i < length ls → number_of (slice_index_or ls i d).before ≡ last_at (stays_of ls) (begin_at (stays_of ls) i) i
