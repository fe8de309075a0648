-- What each call that changes a job is answered, refused calls among them.
use Rattle.std.specs.Prelude.{◌≡◌, ℕ, List, [], ◌∷◌, ◌++◌}
use Rattle.rules.specs.Changes.{Change, load, after}
use Rattle.rules.specs.Jobs.{fresh}
use Rattle.cases.specs.Calls.{kind, library, row, limits, times, Answer, accepted, refused, refused_at, answered}

-- after some calls on a new job, one more call and its answer
pub record Row : Type 0 where
  pub before : List Change
  pub call : Change
  pub answer : Answer

abbrev after_calls : List Change → Change → Answer → Row
after_calls cs c a = record { before = cs; call = c; answer = a }

abbrev flat : List (List ℕ) → List ℕ
flat [] = []
flat (xs ∷ xss) = xs ++ flat xss

abbrev pub AllAnswered : List Row → Type 0
AllAnswered [] = Unit {0}
AllAnswered (r ∷ rs) = (answered (after fresh r.before) r.call ≡ r.answer) × AllAnswered rs

abbrev pub answers : List Row
answers =
    -- figures at the ends of their ranges
    after_calls [] (kind 0 0 1) (refused 1) ∷
    after_calls [] (kind 9 1 1) (refused 1) ∷
    after_calls [] (kind 2 0 1) (refused 1) ∷
    after_calls [] (kind 2 3 1) (refused 1) ∷
    after_calls [] (kind 1 1 65) (refused 1) ∷
    after_calls [] (kind 8 8 64) accepted ∷
    after_calls [] (kind 1 1 0) accepted ∷
    -- limits at the ends of their ranges
    after_calls [] (limits 0 0) (refused 2) ∷
    after_calls [] (limits 65 0) (refused 2) ∷
    after_calls [] (limits 1 65) (refused 2) ∷
    after_calls [] (limits 1 0) accepted ∷
    after_calls [] (limits 64 64) accepted ∷
    -- numbers of the library, and its caps
    after_calls [] (library 0 1) (refused 4) ∷
    after_calls [] (library 5 1) (refused 4) ∷
    after_calls [] (library 1 1) accepted ∷
    after_calls [] (library 2 0) accepted ∷
    after_calls [] (library 3 64) accepted ∷
    after_calls [] (library 4 1) accepted ∷
    after_calls [] (library 1 65) (refused 1) ∷
    -- eight kinds, and 64 operations
    after_calls (times 7 (kind 1 1 1)) (kind 1 1 1) accepted ∷
    after_calls (times 8 (kind 1 1 1)) (kind 1 1 1) (refused 9) ∷
    after_calls (times 8 (kind 1 1 1)) (library 1 1) (refused 9) ∷
    after_calls (kind 1 1 1 ∷ times 63 (row 1 0 0)) (row 1 63 63) accepted ∷
    after_calls (kind 1 1 1 ∷ times 64 (row 1 0 0)) (row 1 0 0) (refused 10) ∷
    -- the kind and the operands of an operation; one may not use itself
    after_calls (kind 1 1 1 ∷ []) (row 0 0 0) (refused 11) ∷
    after_calls (kind 1 1 1 ∷ []) (row 2 0 0) (refused 11) ∷
    after_calls (kind 1 1 1 ∷ []) (row 1 1 0) (refused 12) ∷
    after_calls (kind 1 1 1 ∷ []) (row 1 0 1) (refused 12) ∷
    after_calls (kind 1 1 1 ∷ []) (row 1 0 0) accepted ∷
    after_calls (kind 1 1 1 ∷ row 1 0 0 ∷ row 1 0 0 ∷ []) (row 1 2 2) accepted ∷
    after_calls (kind 1 1 1 ∷ row 1 0 0 ∷ row 1 0 0 ∷ []) (row 1 3 0) (refused 12) ∷
    after_calls (kind 1 1 1 ∷ row 1 0 0 ∷ row 1 0 0 ∷ []) (row 1 0 3) (refused 12) ∷
    -- a busy time above a latency that is not 0, whichever comes second
    after_calls (kind 2 2 1 ∷ []) (limits 6 1) (refused 13) ∷
    after_calls (kind 2 2 1 ∷ []) (limits 6 2) accepted ∷
    after_calls (kind 2 2 1 ∷ []) (limits 6 0) accepted ∷
    after_calls (kind 1 1 1 ∷ kind 2 2 1 ∷ []) (limits 6 1) (refused 13) ∷
    after_calls (kind 2 2 1 ∷ kind 1 1 1 ∷ []) (limits 6 1) (refused 13) ∷
    after_calls (limits 6 1 ∷ []) (kind 2 2 1) (refused 13) ∷
    after_calls (limits 6 2 ∷ []) (kind 2 2 1) accepted ∷
    after_calls (limits 6 1 ∷ []) (kind 2 1 1) accepted ∷
    after_calls (limits 6 1 ∷ []) (library 3 1) (refused 13) ∷
    after_calls (limits 6 1 ∷ []) (library 4 1) accepted ∷
    -- two faults in one call: the first of these numbers is told
    after_calls (times 8 (kind 1 1 1)) (kind 9 1 1) (refused 1) ∷
    after_calls (limits 6 1 ∷ []) (kind 9 2 1) (refused 1) ∷
    after_calls (limits 6 1 ∷ times 8 (kind 1 1 1)) (kind 2 2 1) (refused 9) ∷
    after_calls [] (library 5 65) (refused 4) ∷
    after_calls (limits 6 1 ∷ times 8 (kind 1 1 1)) (library 5 1) (refused 4) ∷
    after_calls (times 8 (kind 1 1 1)) (library 1 65) (refused 1) ∷
    after_calls (limits 6 1 ∷ []) (library 3 65) (refused 1) ∷
    after_calls (limits 6 1 ∷ times 8 (kind 1 1 1)) (library 3 1) (refused 9) ∷
    after_calls (kind 1 1 1 ∷ times 64 (row 1 0 0)) (row 0 0 0) (refused 10) ∷
    after_calls (kind 1 1 1 ∷ times 64 (row 1 0 0)) (row 1 65 0) (refused 10) ∷
    after_calls (kind 1 1 1 ∷ []) (row 2 9 9) (refused 11) ∷
    after_calls (kind 2 2 1 ∷ []) (limits 0 1) (refused 2) ∷
    after_calls (kind 2 2 1 ∷ []) (limits 65 1) (refused 2) ∷
    -- files as a whole; one of 4,096 bytes is read
    after_calls [] (load []) (refused_at 5 0) ∷
    after_calls [] (load (2 ∷ [])) (refused_at 5 0) ∷
    after_calls [] (load (1 ∷ [])) accepted ∷
    after_calls [] (load (1 ∷ times 4096 0)) (refused_at 5 0) ∷
    after_calls [] (load (1 ∷ times 4095 0)) (refused_at 7 1) ∷
    -- records that are torn or unknown: torn comes first, and both before the fault of a call
    after_calls [] (load (1 ∷ 0 ∷ 3 ∷ 3 ∷ 6 ∷ [])) (refused_at 6 1) ∷
    after_calls [] (load (1 ∷ 0 ∷ [])) (refused_at 6 1) ∷
    after_calls [] (load (1 ∷ 0 ∷ 3 ∷ 9 ∷ 6 ∷ [])) (refused_at 6 1) ∷
    after_calls [] (load (1 ∷ 0 ∷ 0 ∷ [])) (refused_at 7 1) ∷
    after_calls [] (load (1 ∷ 0 ∷ 3 ∷ 5 ∷ 6 ∷ 4 ∷ [])) (refused_at 7 1) ∷
    after_calls [] (load (1 ∷ 0 ∷ 4 ∷ 3 ∷ 0 ∷ 4 ∷ 0 ∷ [])) (refused_at 7 1) ∷
    after_calls [] (load (1 ∷ 0 ∷ 8 ∷ 1 ∷ 9 ∷ 1 ∷ 1 ∷ 0 ∷ 0 ∷ 0 ∷ [])) (refused_at 6 1) ∷
    -- each refusal behind the first record, which ends at offset 5
    after_calls [] (load (1 ∷ 0 ∷ 3 ∷ 3 ∷ 6 ∷ 1 ∷ 0 ∷ 8 ∷ 1 ∷ 1 ∷ 2 ∷ 4 ∷ 0 ∷ 0 ∷ 0 ∷ 0 ∷ [])) (refused_at 1 6) ∷
    after_calls [] (load (1 ∷ 0 ∷ 3 ∷ 3 ∷ 6 ∷ 1 ∷ 0 ∷ 3 ∷ 3 ∷ 0 ∷ 1 ∷ [])) (refused_at 2 6) ∷
    after_calls [] (load (1 ∷ 0 ∷ 3 ∷ 3 ∷ 6 ∷ 1 ∷ 0 ∷ 3 ∷ 4 ∷ 5 ∷ 1 ∷ [])) (refused_at 4 6) ∷
    after_calls [] (load (1 ∷ 0 ∷ 3 ∷ 3 ∷ 6 ∷ 1 ∷ 0 ∷ [])) (refused_at 6 6) ∷
    after_calls [] (load (1 ∷ 0 ∷ 3 ∷ 3 ∷ 6 ∷ 1 ∷ 0 ∷ 2 ∷ 9 ∷ 9 ∷ [])) (refused_at 7 6) ∷
    after_calls [] (load (1 ∷ 0 ∷ 3 ∷ 4 ∷ 1 ∷ 1 ∷ 0 ∷ 3 ∷ 4 ∷ 1 ∷ 1 ∷ 0 ∷ 3 ∷ 4 ∷ 1 ∷ 1 ∷ 0 ∷ 3 ∷ 4 ∷ 1 ∷ 1 ∷ 0 ∷ 3 ∷ 4 ∷ 1 ∷ 1 ∷ 0 ∷ 3 ∷ 4 ∷ 1 ∷ 1 ∷ 0 ∷ 3 ∷ 4 ∷ 1 ∷ 1 ∷ 0 ∷ 3 ∷ 4 ∷ 1 ∷ 1 ∷ 0 ∷ 3 ∷ 4 ∷ 1 ∷ 1 ∷ [])) (refused_at 9 41) ∷
    after_calls [] (load ((1 ∷ 0 ∷ 3 ∷ 4 ∷ 1 ∷ 1 ∷ []) ++ flat (times 65 (0 ∷ 4 ∷ 2 ∷ 1 ∷ 0 ∷ 0 ∷ [])))) (refused_at 10 390) ∷
    after_calls [] (load (1 ∷ 0 ∷ 3 ∷ 3 ∷ 6 ∷ 1 ∷ 0 ∷ 4 ∷ 2 ∷ 1 ∷ 0 ∷ 0 ∷ [])) (refused_at 11 6) ∷
    after_calls [] (load (1 ∷ 0 ∷ 3 ∷ 3 ∷ 6 ∷ 1 ∷ 0 ∷ 3 ∷ 4 ∷ 1 ∷ 1 ∷ 0 ∷ 4 ∷ 2 ∷ 1 ∷ 1 ∷ 0 ∷ [])) (refused_at 12 11) ∷
    after_calls [] (load (1 ∷ 0 ∷ 3 ∷ 3 ∷ 6 ∷ 1 ∷ 0 ∷ 3 ∷ 4 ∷ 3 ∷ 1 ∷ [])) (refused_at 13 6) ∷
    []
