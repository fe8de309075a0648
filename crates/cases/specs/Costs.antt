-- What plans cost, and where prices and sums stop.
use Rattle.std.specs.Prelude.{◌≡◌, ℕ, true, false, List, [], ◌∷◌, ◌++◌}
use Rattle.std.proofs.Common.{lit≤}
use Rattle.rules.specs.declared.edit.Edit.TheVariants.{AddKind}
use Rattle.rules.specs.declared.kind.Kind.{Kind}
use Rattle.rules.specs.Changes.{edit, after}
use Rattle.rules.specs.Files.{figures}
use Rattle.rules.specs.Jobs.{Job, fresh}
use Rattle.plan.specs.declared.slot.Slot.{Slot}
use Rattle.schemes.specs.Costs.{Meaning, cost}
use Rattle.schemes.specs.Schemes.{by_area, by_rank, rank}
use Rattle.cases.specs.Calls.{row, limits}
use Rattle.cases.specs.Floors.{at}

-- A scheme whose sum is not commutative: it writes down what was added, the area of a kind and the units in turn, after a 7.
abbrev written_down : Meaning (List ℕ)
written_down = record { nothing = 7 ∷ []; price = λ k n. k.area ∷ n ∷ []; sum = ◌++◌; at_most = λ a b. true }

-- kinds of area and draw 100 and 3, 20 and 50, 5 and 1, of which the second has no operations
abbrev three_kinds : Job
three_kinds =
    after fresh (edit (AddKind (figures 1 1 4 100 3)) ∷ edit (AddKind (figures 1 1 4 20 50)) ∷ edit (AddKind (figures 2 2 4 5 1)) ∷ limits 9 0
    ∷ row 1 0 0 ∷ row 3 1 0 ∷ row 1 0 0 ∷ row 3 0 0 ∷ row 3 0 0 ∷ [])

abbrev slots : List Slot
slots = at 1 2 ∷ at 2 1 ∷ at 2 1 ∷ at 2 3 ∷ at 4 1 ∷ []

abbrev dear : Kind
dear = record { duration = 1; busy = 1; cap = 1; area = 65535; draw = 1; some_busy = lit≤ tt; busy_within = lit≤ tt; short = lit≤ tt; few = lit≤ tt; area_range = lit≤ tt; draw_range = lit≤ tt }

abbrev hungry : Kind
hungry = record { duration = 1; busy = 1; cap = 1; area = 1; draw = 65535; some_busy = lit≤ tt; busy_within = lit≤ tt; short = lit≤ tt; few = lit≤ tt; area_range = lit≤ tt; draw_range = lit≤ tt }

pub record Costed : Type 0 where
  -- zero, then each kind in order, the one with no units too
  pub in_order : cost written_down three_kinds slots ≡ 7 ∷ 100 ∷ 2 ∷ 20 ∷ 0 ∷ 5 ∷ 3 ∷ []
  pub of_nothing : cost written_down three_kinds [] ≡ 7 ∷ 100 ∷ 0 ∷ 20 ∷ 0 ∷ 5 ∷ 0 ∷ []
  pub begun : cost written_down three_kinds (at 1 2 ∷ at 2 4 ∷ []) ≡ 7 ∷ 100 ∷ 2 ∷ 20 ∷ 0 ∷ 5 ∷ 4 ∷ []
  pub area : cost by_area three_kinds slots ≡ 215
  pub ranked : cost by_rank three_kinds slots ≡ rank 215 9
  -- prices stop, and a full area makes a full draw
  pub area_price : by_area.price dear 65535 ≡ 1000000000
  pub just_below : by_area.price dear 15259 ≡ 999998565
  pub full_price : ((by_rank.price dear 65535).area ≡ 1000000000) × ((by_rank.price dear 65535).draw ≡ 1000000000)
  pub full_draw : ((by_rank.price hungry 65535).area ≡ 65535) × ((by_rank.price hungry 65535).draw ≡ 1000000000)
  -- sums stop likewise
  pub area_sum : by_area.sum 999999999 1 ≡ 1000000000
  pub area_over : by_area.sum 999999999 2 ≡ 1000000000
  pub full_sum : ((by_rank.sum (rank 600000000 1) (rank 400000000 2)).draw ≡ 1000000000)
  pub draw_sum : ((by_rank.sum (rank 1 600000000) (rank 2 500000000)).area ≡ 3) × ((by_rank.sum (rank 1 600000000) (rank 2 500000000)).draw ≡ 1000000000)
  -- compared by area, then by draw
  pub by_areas : (by_rank.at_most (rank 1 9) (rank 2 1) ≡ true) × (by_rank.at_most (rank 2 1) (rank 1 9) ≡ false)
  pub by_draws : (by_rank.at_most (rank 2 1) (rank 2 3) ≡ true) × (by_rank.at_most (rank 2 3) (rank 2 1) ≡ false)
  pub itself : (by_rank.at_most (rank 2 3) (rank 2 3) ≡ true) × (by_area.at_most 2 2 ≡ true)
