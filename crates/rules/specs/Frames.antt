-- The frame of an operation: its earliest and its latest start, which may be zero or negative.
use Rattle.std.specs.Prelude.{◌≡◌, ℕ, zero, suc, pred, ◌+◌, ◌≤◌, max, Bool, cond, ◌&&◌, ◌||◌, ◌⊎◌, List, [], ◌∷◌, ◌++◌, length, map, ℤ, pos, ◌+ℤ◌, ◌-ℤ◌, ◌≤ℤ◌, Some, Ok, Result, ◌==◌, int_le, nat_le, slice_index, slice_index_or}
use Rattle.std.specs.Option.{option_map_or}
use Rattle.rules.specs.declared.frame.Frame.{Frame}
use Rattle.rules.specs.declared.operation.Operation.{Operation}
use Rattle.rules.specs.declared.refusal.Refusal.TheVariants.{UnknownOperation}
use Rattle.rules.specs.Jobs.{Job, numbered, duration_of}
use Rattle.rules.specs.Refusals.{where_holds}

-- ---- how frames are worked out

-- when an operand can be read, given when each earlier operation can: an outside input at step 1
abbrev pub readable : List ℕ → ℕ → ℕ
readable ready zero = 1
readable ready (suc p) = slice_index_or ready p 1

abbrev pub earliest : List ℕ → Operation → ℕ
earliest ready o = max (readable ready o.left) (readable ready o.right)

-- the earliest starts of `os`, which follow the operations that `ready` has
abbrev pub earliests_after : Job → List ℕ → List Operation → List ℕ
earliests_after j ready [] = []
earliests_after j ready (o ∷ os) =
    earliest ready o ∷ earliests_after j (ready ++ ((earliest ready o + duration_of j o) ∷ [])) os

-- the earliest start of each operation
abbrev pub earliests : Job → List ℕ
earliests j = earliests_after j [] j.operations

abbrev pub least : ℤ → ℤ → ℤ
least a b = cond (int_le a b) a b

abbrev pub uses : ℕ → Operation → Bool
uses n o = o.left == n || o.right == n

-- the least of `limit` and, for each later operation that uses operation n, its latest start minus the d of n
abbrev pub before_users : ℕ → ℕ → ℤ → List Operation → List ℤ → ℤ
before_users n d limit [] latests = limit
before_users n d limit (o ∷ os) [] = limit
before_users n d limit (o ∷ os) (l ∷ ls) =
    before_users n d (cond (uses n o) (least limit (l -ℤ pos d)) limit) os ls

-- the last start from which an operation of duration d ends within the steps
abbrev pub last_start : Job → ℕ → ℤ
last_start j d = pos j.steps -ℤ pos d +ℤ pos 1

-- the latest starts of operation n, the first of `os`, and of those after it
abbrev pub latests_from : Job → ℕ → List Operation → List ℤ
latests_from j n [] = []
latests_from j n (o ∷ os) =
    let later : List ℤ = latests_from j (suc n) os in
    before_users n (duration_of j o) (last_start j (duration_of j o)) os later ∷ later

-- the latest start of each operation
abbrev pub latests : Job → List ℤ
latests j = latests_from j 1 j.operations

-- the frame of each operation
pub record FramesOf (j : Job) (fs : List Frame) : Type 0 where
  pub earliest : map (λ f. f.earliest) fs ≡ earliests j
  pub latest : map (λ f. f.latest) fs ≡ latests j

-- ---- the question

abbrev pub earliest_start : Job → ℕ → ℕ
earliest_start j n = slice_index (earliests j) (pred n)

abbrev pub latest_start : Job → ℕ → ℤ
latest_start j n = slice_index_or (latests j) (pred n) (pos 0)

abbrev pub holds : Job → ℕ → Bool
holds j n = nat_le 1 n && nat_le n (length j.operations)

-- the frame of operation n, told together
abbrev pub frame_of : Job → ℕ → Result (ℤ × ℤ) ℕ
frame_of j n = where_holds (holds j n) UnknownOperation (λ _. Ok (pos (earliest_start j n), latest_start j n))

-- ---- what a frame is

-- the duration of operation n, 0 if it is not held
abbrev pub duration_at : Job → ℕ → ℕ
duration_at j n = option_map_or (duration_of j) (numbered j.operations n) 0

-- operation `user` has operation `used` as an operand
pub record Uses (j : Job) (user used : ℕ) : Type 0 where
  pub row : Operation
  pub held : numbered j.operations user ≡ Some row
  pub inside : 1 ≤ used
  pub operand : (row.left ≡ used) ⊎ (row.right ≡ used)

-- The earliest start is the greatest of 1 and of each operand's earliest start plus that operand's duration;
-- the latest is the least of T - d + 1 and of each user's latest start minus the operation's own d.
pub record Framed (j : Job) (n : ℕ) : Type 0 where
  pub from_one : 1 ≤ earliest_start j n
  pub behind_operands : (p : ℕ) → Uses j n p → earliest_start j p + duration_at j p ≤ earliest_start j n
  pub earliest_met : (earliest_start j n ≡ 1) ⊎ ((p : ℕ) × Uses j n p × (earliest_start j n ≡ earliest_start j p + duration_at j p))
  pub by_the_end : latest_start j n ≤ℤ last_start j (duration_at j n)
  pub ahead_of_users : (q : ℕ) → Uses j q n → latest_start j n ≤ℤ (latest_start j q -ℤ pos (duration_at j n))
  pub latest_met : (latest_start j n ≡ last_start j (duration_at j n)) ⊎ ((q : ℕ) × Uses j q n × (latest_start j n ≡ latest_start j q -ℤ pos (duration_at j n)))
