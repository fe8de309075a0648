-- The latest start of an operation is the least of T - d + 1 and of what its users leave it.
use Rattle.std.proofs.Common.{◌≡◌, ℕ, zero, suc, ◌+◌, ◌-◌, ◌<◌, true, cond, ◌⊎◌, List, [], ◌∷◌, length, ℤ, pos, ◌-ℤ◌, ◌≤ℤ◌, Some, refl, ap, ◌∙◌, subst, inl, inr, ⊎_elim, arith}
use Rattle.std.proofs.lemmas.Option.{get_or_from_slice_get, none-some, same_Some, slice_get_within}
use Rattle.std.specs.List.{slice_get}
use Rattle.std.proofs.lemmas.Int.{ints}
use Rattle.std.proofs.lemmas.Bool.Decides.{nat_tests}
use Rattle.rules.specs.declared.operation.Operation.{Operation}
use Rattle.rules.specs.Jobs.{Job, Valid, numbered, duration_of}
use Rattle.rules.specs.Frames.{Uses, least, uses, before_users, last_start, latests_from, latests, latest_start, duration_at}
use Rattle.rules.proofs.Numbered.{nth_within, After, after_none, after_more, after_here, after_at}
use Rattle.rules.proofs.Rows.{duration_held}

-- ---- the limit that users leave to operation m of duration d

abbrev limit_by : ℕ → ℕ → ℤ → Operation → ℤ → ℤ
limit_by m d limit o l = cond (uses m o) (least limit (l -ℤ pos d)) limit

limit_by_le : (m d : ℕ) (limit : ℤ) (o : Operation) (l : ℤ) → limit_by m d limit o l ≤ℤ limit
limit_by_le m d limit o l = grind (arith, ints, nat_tests)

limit_by_user : (m d : ℕ) (limit : ℤ) (o : Operation) (l : ℤ) → uses m o ≡ true → limit_by m d limit o l ≤ℤ (l -ℤ pos d)
limit_by_user m d limit o l h = grind (arith, ints, nat_tests)

limit_by_met : (m d : ℕ) (limit : ℤ) (o : Operation) (l : ℤ)
    → (limit_by m d limit o l ≡ limit) ⊎ ((uses m o ≡ true) × (limit_by m d limit o l ≡ l -ℤ pos d))
limit_by_met m d limit o l = grind (arith, ints, nat_tests)

before_users_le : (m d : ℕ) (limit : ℤ) (os : List Operation) (ls : List ℤ) → before_users m d limit os ls ≤ℤ limit
before_users_le m d limit [] ls = omega (arith, ints)
before_users_le m d limit (o ∷ os) [] = omega (arith, ints)
before_users_le m d limit (o ∷ os) (l ∷ ls) =
    let k = before_users_le m d (limit_by m d limit o l) os ls in
    let h = limit_by_le m d limit o l in
    omega (arith, ints)

before_users_user : (m d : ℕ) (limit : ℤ) (os : List Operation) (ls : List ℤ) (i : ℕ) (o : Operation) (l : ℤ)
    → slice_get os i ≡ Some o → slice_get ls i ≡ Some l → uses m o ≡ true → before_users m d limit os ls ≤ℤ (l -ℤ pos d)
before_users_user m d limit [] ls i o l e f h = absurd (none-some o e)
before_users_user m d limit (q ∷ os) [] i o l e f h = absurd (none-some l f)
before_users_user m d limit (q ∷ os) (k ∷ ls) zero o l e f h =
    let a = before_users_le m d (limit_by m d limit q k) os ls in
    let same : uses m q ≡ true = ap (uses m) (same_Some q o e) ∙ h in
    let b = limit_by_user m d limit q k same in
    let c : k ≡ l = same_Some k l f in
    omega (arith, ints)
before_users_user m d limit (q ∷ os) (k ∷ ls) (suc i) o l e f h = before_users_user m d (limit_by m d limit q k) os ls i o l e f h

-- a user that leaves operation m just the limit z
record LeftBy (m d : ℕ) (os : List Operation) (ls : List ℤ) (z : ℤ) : Type 0 where
  place : ℕ
  user : Operation
  start : ℤ
  user_held : slice_get os place ≡ Some user
  start_held : slice_get ls place ≡ Some start
  used : uses m user ≡ true
  left : z ≡ start -ℤ pos d

before_users_met : (m d : ℕ) (limit : ℤ) (os : List Operation) (ls : List ℤ)
    → (before_users m d limit os ls ≡ limit) ⊎ LeftBy m d os ls (before_users m d limit os ls)
before_users_met m d limit [] ls = inl refl
before_users_met m d limit (o ∷ os) [] = inl refl
before_users_met m d limit (o ∷ os) (l ∷ ls) =
    ⊎_elim
    (λ e.
    ⊎_elim
    (λ f. inl (e ∙ f))
    (λ f. inr (record { place = 0; user = o; start = l; user_held = refl; start_held = refl; used = f.0; left = e ∙ f.1 }))
    (limit_by_met m d limit o l))
    (λ w.
    inr (record { place = suc w.place; user = w.user; start = w.start; user_held = w.user_held; start_held = w.start_held; used = w.used; left = w.left }))
    (before_users_met m d (limit_by m d limit o l) os ls)

pub latests_length : (j : Job) (n : ℕ) (os : List Operation) → length (latests_from j n os) ≡ length os
latests_length j n [] = refl
latests_length j n (o ∷ os) = ap suc (latests_length j (suc n) os)

user_of : (m : ℕ) (o : Operation) → (o.left ≡ m) ⊎ (o.right ≡ m) → uses m o ≡ true
user_of m o h = grind (arith, nat_tests)

operand_of : (m : ℕ) (o : Operation) → uses m o ≡ true → (o.left ≡ m) ⊎ (o.right ≡ m)
operand_of m o h = grind (arith, nat_tests)

-- ---- the latest starts, operation by operation

module _ (j : Job) where
  -- the latest start of the operation `o` at place n is worked out from those of the later operations
  record WorkedOut (n : ℕ) (o : Operation) : Type 0 where
    later : List Operation
    after : After (suc n) j.operations later
    starts : After (suc n) (latests j) (latests_from j (suc (suc n)) later)
    start : latest_start j (suc n) ≡ before_users (suc n) (duration_of j o) (last_start j (duration_of j o)) later (latests_from j (suc (suc n)) later)

  worked_here : (n : ℕ) (o : Operation) (os : List Operation) → After n j.operations (o ∷ os)
      → After n (latests j) (latests_from j (suc n) (o ∷ os)) → WorkedOut n o
  worked_here n o os a b =
      record { later = os; after = after_more a; starts = after_more b; start = get_or_from_slice_get (latests j) n _ (pos 0) (after_here b) }

  worked_from : (n : ℕ) (os : List Operation) → After n j.operations os → After n (latests j) (latests_from j (suc n) os)
      → (i m : ℕ) (o : Operation) → m ≡ n + i → slice_get os i ≡ Some o → WorkedOut m o
  worked_from n [] a b i m o at e = absurd (none-some o e)
  worked_from n (r ∷ os) a b zero m o at e =
      let same : n ≡ m = omega arith in
      subst (λ k. WorkedOut k o) same (subst (λ q. WorkedOut n q) (same_Some r o e) (worked_here n r os a b))
  worked_from n (r ∷ os) a b (suc i) m o at e = worked_from (suc n) os (after_more a) (after_more b) i m o (omega arith) e

  worked_out : (n : ℕ) (o : Operation) → slice_get j.operations n ≡ Some o → WorkedOut n o
  worked_out n o e = worked_from 0 j.operations (after_none j.operations) (after_none (latests j)) n n o (omega arith) e

  -- ---- what this says of the operation `o` numbered n + 1

  module _ (n : ℕ) (o : Operation) (held : slice_get j.operations n ≡ Some o) where
    out : WorkedOut n o
    out = worked_out n o held

    takes : duration_at j (suc n) ≡ duration_of j o
    takes = duration_held j (suc n) o held

    -- the latest starts of the later operations
    abbrev later_starts : List ℤ
    later_starts = latests_from j (suc (suc n)) out.later

    pub by_the_end : latest_start j (suc n) ≤ℤ last_start j (duration_at j (suc n))
    by_the_end =
        rw (takes, out.start) (before_users_le (suc n) (duration_of j o) (last_start j (duration_of j o)) out.later later_starts)

    -- a user at place n + 1 + i
    ahead_at : (i : ℕ) (q : Operation) → slice_get out.later i ≡ Some q → uses (suc n) q ≡ true
        → latest_start j (suc n) ≤ℤ (latest_start j (suc (suc n + i)) -ℤ pos (duration_at j (suc n)))
    ahead_at i q e h =
        let at : i < length later_starts = omega (arith, slice_get_within out.later i q e, latests_length j (suc (suc n)) out.later) in
        let l = nth_within later_starts i at in
        let its : latest_start j (suc (suc n + i)) ≡ l.0 = get_or_from_slice_get (latests j) (suc n + i) l.0 (pos 0) (after_at i l.0 out.starts l.1) in
        rw (takes, out.start, its)
        (before_users_user (suc n) (duration_of j o) (last_start j (duration_of j o)) out.later later_starts i q l.0 e l.1 h)

    pub ahead_of_users : Valid j → (q : ℕ) → Uses j q (suc n) → latest_start j (suc n) ≤ℤ (latest_start j q -ℤ pos (duration_at j (suc n)))
    ahead_of_users valid q u =
        let before = valid.earlier_operands q u.row u.held in
        let less : suc n < q = omega (arith, u.operand) in
        let i : ℕ = q - suc (suc n) in
        let is : suc (suc n + i) ≡ q = omega arith in
        let e : slice_get out.later i ≡ Some u.row = out.after.same i ∙ ap (numbered j.operations) is ∙ u.held in
        subst (λ k. latest_start j (suc n) ≤ℤ (latest_start j k -ℤ pos (duration_at j (suc n)))) is
        (ahead_at i u.row e (user_of (suc n) u.row u.operand))

    abbrev Met : Type 0
    Met =
        (latest_start j (suc n) ≡ last_start j (duration_at j (suc n)))
        ⊎ ((q : ℕ) × Uses j q (suc n) × (latest_start j (suc n) ≡ latest_start j q -ℤ pos (duration_at j (suc n))))

    met_by : LeftBy (suc n) (duration_of j o) out.later later_starts (latest_start j (suc n)) → Met
    met_by w =
        let its : latest_start j (suc (suc n + w.place)) ≡ w.start =
        get_or_from_slice_get (latests j) (suc n + w.place) w.start (pos 0) (after_at w.place w.start out.starts w.start_held) in
        inr (
          suc (suc n + w.place),
          record { row = w.user; held = after_at w.place w.user out.after w.user_held; inside = omega arith; operand = operand_of (suc n) w.user w.used },
          rw (takes, its) w.left,
        )

    pub latest_met : Met
    latest_met =
        ⊎_elim (λ e. inl (rw takes (out.start ∙ e))) (λ w. met_by (rw out.start w))
        (before_users_met (suc n) (duration_of j o) (last_start j (duration_of j o)) out.later later_starts)
