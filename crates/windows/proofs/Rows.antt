-- Rows of windows, those that begin at the same step, done from the last back.
use Rattle.std.proofs.Common.{◌≡◌, ℕ, ◌+◌, ◌-◌, ◌*◌, ◌<◌, ◌≤◌, max, List, take, sum, ap, ◌∙◌, ⊎_elim, mul-le-mul_right, zero-mul, arith}
use Rattle.std.proofs.lemmas.List.Sums.{sum_by-take-le}
use Rattle.std.proofs.lemmas.Bool.{cases_lt}
use Rattle.std.proofs.lemmas.Bool.Decides.{nat_tests}
use Rattle.windows.specs.declared.stay.Stay.{Stay}
use Rattle.windows.specs.Counts.{held, starting, Tallies, held_floor, tallied_floor, Inside}
use Rattle.windows.specs.Windows.{room, window_floor, greatest}
use Rattle.windows.proofs.Counting.{held_split, held_wider, held_past}
use Rattle.windows.proofs.Greatest.{greatest_turn, greatest_end, greatest_same, greatest_least, greatest_above}
use Rattle.windows.proofs.Rounding.{enough, no_greater}

module _ (l r : ℕ) where
  room_some : (width : ℕ) → 1 ≤ width → 1 ≤ room l width
  room_some width some = grind (arith, nat_tests)

  room_grows : (width wide : ℕ) → width ≤ wide → room l width ≤ room l wide
  room_grows width wide more = grind (arith, nat_tests)

  -- a window that is no narrower and holds no more has no greater floor
  floor_less : (wide width few many : ℕ) → 1 ≤ width → width ≤ wide → few ≤ many → window_floor l r wide few ≤ window_floor l r width many
  floor_less wide width few many some more less =
      no_greater (few * r) (many * r) (room l width) (room l wide) (mul-le-mul_right r less) (room_some width some) (room_grows width wide more)

  floor_none : (width : ℕ) → 1 ≤ width → window_floor l r width 0 ≤ 0
  floor_none width some = enough 0 (0 * r) (room l width) (room_some width some) (omega (arith, zero-mul r))

-- the greatest floor of the windows that begin at s
abbrev row : ℕ → ℕ → List Stay → ℕ → ℕ → ℕ
row l r ts t s = greatest (held_floor l r ts s) s (t + 1 - s)

module _ (l r t : ℕ) (ts : List Stay) where
  -- where no stay begins at s, the windows that begin a step later are as good
  row_later : Inside t ts → (s : ℕ) → s ≤ t → ((e : ℕ) → starting s e ts ≡ 0) → row l r ts t s ≤ row l r ts t (s + 1)
  row_later inside s low none = greatest_least (held_floor l r ts s) s (t + 1 - s) (row l r ts t (s + 1)) each
    where
      same : (e : ℕ) → held s e ts ≡ held (s + 1) e ts
      same e = omega (arith, held_split s e ts, none e)

      narrow : (e : ℕ) → s < e → e ≤ t → held_floor l r ts (s + 1) e ≤ row l r ts t (s + 1)
      narrow e after before = greatest_above (held_floor l r ts (s + 1)) (s + 1) (t + 1 - (s + 1)) e (omega arith) (omega arith)

      first : held_floor l r ts s s ≤ row l r ts t (s + 1)
      first =
          ⊎_elim
          (λ more.
          omega (arith, narrow (s + 1) (omega arith) (omega arith), floor_less l r (s + 1 - s) (s + 1 + 1 - (s + 1)) (held s s ts) (held (s + 1) (s + 1) ts) (omega arith) (omega arith) (omega (arith, same s, held_wider (s + 1) s ts))))
          (λ last.
          let end : s ≡ t = omega arith in
          let empty : held s s ts ≡ 0 = same s ∙ ap (λ x. held (x + 1) s ts) end ∙ held_past t ts inside s in
          omega (arith, ap (window_floor l r (s + 1 - s)) empty, floor_none l r (s + 1 - s) (omega arith)))
          (cases_lt s t)

      each : (e : ℕ) → s ≤ e → e < s + (t + 1 - s) → held_floor l r ts s e ≤ row l r ts t (s + 1)
      each e after before =
          ⊎_elim
          (λ more. omega (arith, narrow e more (omega arith), floor_less l r (e + 1 - s) (e + 1 - (s + 1)) (held s e ts) (held (s + 1) e ts) (omega arith) (omega arith) (omega (arith, same e))))
          (λ here. let is : e ≡ s = omega arith in omega (arith, ap (held_floor l r ts s) is, first))
          (cases_lt s e)

  -- what is known when the rows after step s are done: `ends` tallies their stays, and `most` is the greatest of their floors
  pub record Done (s : ℕ) (ends : List ℕ) (most : ℕ) : Type 0 where
    pub tallied : Tallies (s + 1) ts ends
    pub least : row l r ts t (s + 1) ≤ most
    pub left : max most (greatest (row l r ts t) 1 (s + 1 - 1)) ≡ greatest (row l r ts t) 1 t

  pub done_none : Inside t ts → (ends : List ℕ) → sum ends ≡ 0 → Done t ends 0
  done_none inside ends none =
      let past : t + 1 - (t + 1) ≡ 0 = omega arith in
      let all : t + 1 - 1 ≡ t = omega arith in
      record {
        tallied = λ e low.
            let few : sum (take (e + 1) ends) ≤ sum ends = sum_by-take-le (λ n. n) ends (e + 1) in
            omega (arith, held_past t ts inside e);
        least = omega (arith, ap (greatest (held_floor l r ts (t + 1)) (t + 1)) past);
        left = omega (arith, ap (greatest (row l r ts t) 1) all);
      }

  module _ {s : ℕ} {ends : List ℕ} {most : ℕ} (done : Done s ends most) (some : 1 ≤ s) where
    turn : (ends' : List ℕ) (most' : ℕ) → Tallies s ts ends' → most' ≡ max most (row l r ts t s) → Done (s - 1) ends' most'
    turn ends' most' tallied taken =
        let here : s - 1 + 1 ≡ s = omega arith in
        record {
          tallied = rw here tallied;
          least = rw here (omega arith);
          left = greatest_turn (row l r ts t) 1 s most _ most' done.left some some taken;
        }

    -- no stay begins at s
    pub done_skipped : s ≤ t → Inside t ts → (ends' : List ℕ) → Tallies s ts ends' → ((e : ℕ) → starting s e ts ≡ 0) → Done (s - 1) ends' most
    done_skipped low inside ends' tallied none =
        let later = row_later inside s low none in
        turn ends' most tallied (omega (arith, done.least))

    -- the same, with the tally as it was
    pub done_passed : s ≤ t → Inside t ts → ((e : ℕ) → starting s e ts ≡ 0) → Done (s - 1) ends most
    done_passed low inside none = done_skipped low inside ends (λ e high. omega (arith, done.tallied e high, held_split s e ts, none e)) none

    -- the row at s is taken in
    pub done_raised : t ≤ 64 → (ends' : List ℕ) → Tallies s ts ends' → (most' : ℕ)
        → most' ≡ max most (greatest (tallied_floor l r ends' s) s (t + 1 - s)) → Done (s - 1) ends' most'
    done_raised few ends' tallied most' raised =
        turn ends' most' tallied
        (raised ∙ ap (max most) (greatest_same _ (held_floor l r ts s) s (t + 1 - s) (λ e low high. ap (window_floor l r (e + 1 - s)) (tallied e (omega arith)))))

  -- all rows are done
  pub done_all : (ends : List ℕ) (most : ℕ) → Done 0 ends most → most ≡ greatest (row l r ts t) 1 t
  done_all ends most done = greatest_end (row l r ts t) 1 1 most _ done.left (omega arith)
