-- The latest starts, worked out from the last operation back, and their range.
use Rattle.std.proofs.lemmas.List.{append-nil, append_assoc, drop-set, length-append, length_push}
use Rattle.std.proofs.Math.Seq.{drop-append-add}
use Rattle.rules.proofs.Latest.{latests_length}
use Rattle.std.proofs.Common.{◌≡◌, ℕ, zero, suc, ◌+◌, ◌-◌, ◌*◌, ◌<◌, ◌≤◌, true, false, cond, ◌⊎◌, inl, inr, List, [], ◌∷◌, ◌++◌, get_or, drop, set, length, ℤ, pos, ◌+ℤ◌, ◌-ℤ◌, ◌≤ℤ◌, sym, refl, ap, ap₂, ◌∙◌, subst, arith}
use Rattle.std.specs.Int.{int_min}
use Rattle.std.proofs.lemmas.Bool.{cond-true, cond-false}
use Rattle.std.proofs.lemmas.Int.{ints}
use Rattle.std.proofs.lemmas.Bool.Decides.{nat_tests}
use Rattle.rules.specs.declared.operation.Operation.{Operation}
use Rattle.rules.specs.Jobs.{Job, Valid, duration_of}
use Rattle.rules.specs.Frames.{least, uses, before_users, last_start, latests_from, latests}
use Rattle.rules.proofs.Durations.{duration_short}

-- one more row that may use operation n
pub users_more : (n d : ℕ) (o : Operation) (limit next z : ℤ) (rows os : List Operation) (starts zs : List ℤ) → rows ≡ o ∷ os → starts ≡ z ∷ zs
    → next ≡ cond (uses n o) (least limit (z -ℤ pos d)) limit → before_users n d next os zs ≡ before_users n d limit rows starts
users_more n d o limit next z rows os starts zs first second is =
    ap (λ l. before_users n d l os zs) is ∙ sym (ap₂ (before_users n d limit) first second)

pub users_done : (n d : ℕ) (limit : ℤ) (rows : List Operation) (starts : List ℤ) → (rows ≡ []) ⊎ (starts ≡ []) → before_users n d limit rows starts ≡ limit
users_done n d limit [] starts none = refl
users_done n d limit (o ∷ os) [] none = refl
users_done n d limit (o ∷ os) (z ∷ zs) (inl none) = absurd (cc)
users_done n d limit (o ∷ os) (z ∷ zs) (inr none) = absurd (cc)

-- the limit after one row whose latest start is z
module _ (n d : ℕ) (o : Operation) (limit next z : ℤ) where
  pub limit_used : (o.left ≡ n) ⊎ (o.right ≡ n) → next ≡ int_min limit (z -ℤ pos d) → next ≡ cond (uses n o) (least limit (z -ℤ pos d)) limit
  limit_used by is =
      let yes : uses n o ≡ true = grind (arith, nat_tests) in
      let min : next ≡ least limit (z -ℤ pos d) = grind (arith, ints) in
      min ∙ sym (cond-true (uses n o) (least limit (z -ℤ pos d)) limit yes)

  pub limit_unused : (o.left ≡ n → ⊥) → (o.right ≡ n → ⊥) → next ≡ limit → next ≡ cond (uses n o) (least limit (z -ℤ pos d)) limit
  limit_unused left right is =
      let none : uses n o ≡ false = grind (arith, nat_tests) in
      is ∙ sym (cond-false (uses n o) (least limit (z -ℤ pos d)) limit none)

-- each z lies from -low to 65
abbrev pub Within : ℕ → List ℤ → Type 0
Within low [] = Unit {0}
Within low (z ∷ zs) = (pos 0 ≤ℤ (z +ℤ pos low)) × (z ≤ℤ pos 65) × Within low zs

pub within_lower : (low lower : ℕ) (zs : List ℤ) → low ≤ lower → Within low zs → Within lower zs
within_lower low lower [] h w = tt
within_lower low lower (z ∷ zs) h w = (omega (arith, ints, w.0), w.1, within_lower low lower zs h w.2)

limit_low : (n d low : ℕ) (limit z : ℤ) (o : Operation) → d ≤ 8 → pos 0 ≤ℤ (limit +ℤ pos (low + 8)) → pos 0 ≤ℤ (z +ℤ pos low)
    → pos 0 ≤ℤ (cond (uses n o) (least limit (z -ℤ pos d)) limit +ℤ pos (low + 8))
limit_low n d low limit z o short h k = grind (arith, ints, nat_tests)

limit_high : (n d : ℕ) (limit z : ℤ) (o : Operation) → limit ≤ℤ pos 65 → cond (uses n o) (least limit (z -ℤ pos d)) limit ≤ℤ pos 65
limit_high n d limit z o h = grind (arith, ints, nat_tests)

users_within : (n d low : ℕ) (limit : ℤ) (os : List Operation) (zs : List ℤ) → d ≤ 8 → pos 0 ≤ℤ (limit +ℤ pos (low + 8)) → limit ≤ℤ pos 65 → Within low zs
    → (pos 0 ≤ℤ (before_users n d limit os zs +ℤ pos (low + 8))) × (before_users n d limit os zs ≤ℤ pos 65)
users_within n d low limit [] zs short h k w = (h, k)
users_within n d low limit (o ∷ os) [] short h k w = (h, k)
users_within n d low limit (o ∷ os) (z ∷ zs) short h k w =
    users_within n d low (cond (uses n o) (least limit (z -ℤ pos d)) limit) os zs short (limit_low n d low limit z o short h w.0) (limit_high n d limit z o k) w.2

-- a latest start falls by at most 8 from one operation to an earlier one
pub latests_within : (j : Job) → 1 ≤ j.steps → j.steps ≤ 64 → (n : ℕ) (os : List Operation) → Within (8 * length os) (latests_from j n os)
latests_within j some few n [] = tt
latests_within j some few n (o ∷ os) =
    let d : ℕ = duration_of j o in
    let short : d ≤ 8 = duration_short j o in
    let later : Within (8 * length os) (latests_from j (suc n) os) = latests_within j some few (suc n) os in
    let low : 8 * length os + 8 ≡ 8 * suc (length os) = omega arith in
    let here = users_within n d (8 * length os) (last_start j d) os (latests_from j (suc n) os) short (omega (arith, ints)) (omega (arith, ints)) later in
    let P : ℕ → Type 0 = λ b. Within b (latests_from j n (o ∷ os)) in
    subst P low (here.0, here.1, within_lower (8 * length os) (8 * length os + 8) (latests_from j (suc n) os) (omega arith) later)

within_at : (low : ℕ) (zs : List ℤ) (q : ℕ) (d : ℤ) → q < length zs → Within low zs → (pos 0 ≤ℤ (get_or zs q d +ℤ pos low)) × (get_or zs q d ≤ℤ pos 65)
within_at low [] q d inside w = absurd (omega arith)
within_at low (z ∷ zs) zero d inside w = (w.0, w.1)
within_at low (z ∷ zs) (suc q) d inside w = within_at low zs q d (omega arith) w.2

-- a start that is known already
pub start_within : (j : Job) (n q : ℕ) (os : List Operation) (starts : List ℤ) → Valid j → length os ≤ 64 → starts ≡ latests_from j n os → q < length starts
    → (pos 0 ≤ℤ (get_or starts q (pos 0) +ℤ pos 512)) × (get_or starts q (pos 0) ≤ℤ pos 65)
start_within j n q os starts valid few known inside =
    let w : Within 512 (latests_from j n os) =
    within_lower (8 * length os) 512 (latests_from j n os) (omega (arith, few)) (latests_within j valid.some_steps valid.few_steps n os) in
    within_at 512 starts q (pos 0) inside (subst (Within 512) (sym known) w)

-- The operations before some others, and the latest starts of these.
pub record Behind (j : Job) (before : List Operation) (starts : List ℤ) : Type 0 where
  pub later : List Operation
  pub parts : before ++ later ≡ j.operations
  pub known : starts ≡ latests_from j (length before + 1) later

pub behind_all : (j : Job) (before : List Operation) (starts : List ℤ) → before ≡ j.operations → starts ≡ [] → Behind j before starts
behind_all j before starts all none = record { later = []; parts = append-nil before ∙ all; known = none }

module _ {j : Job} {whole : List Operation} {starts : List ℤ} (b : Behind j whole starts) (before : List Operation) (o : Operation) (last : whole ≡ before ++ (o ∷ [])) where
  parts_here : before ++ (o ∷ b.later) ≡ j.operations
  parts_here = sym (append_assoc before (o ∷ []) b.later) ∙ ap (λ os. os ++ b.later) (sym last) ∙ b.parts

  later_rows : drop (length before + 1) j.operations ≡ b.later
  later_rows = ap (drop (length before + 1)) (sym parts_here) ∙ drop-append-add before (o ∷ b.later) 1

  pub known_here : starts ≡ latests_from j (length before + 1 + 1) (drop (length before + 1) j.operations)
  known_here =
      b.known ∙ ap₂ (λ n os. latests_from j (n + 1) os) (ap length last ∙ length_push before o) (sym later_rows)

  pub fewer : length starts < length j.operations
  fewer =
      let same : length starts ≡ length b.later = ap length b.known ∙ latests_length j (length whole + 1) b.later in
      omega (arith, same, ap length parts_here, length-append before (o ∷ b.later))

  pub behind_more : (z : ℤ) → z ∷ starts ≡ latests_from j (length before + 1) (o ∷ drop (length before + 1) j.operations) → Behind j before (z ∷ starts)
  behind_more z is = record { later = o ∷ b.later; parts = parts_here; known = is ∙ ap (λ os. latests_from j (length before + 1) (o ∷ os)) later_rows }

-- a start is put before those that stand at the end of the rows
pub drop_put : (rows : List ℤ) (first : ℕ) (z : ℤ) → 1 ≤ first → first ≤ length rows → drop (first - 1) (set rows (first - 1) z) ≡ z ∷ drop first rows
drop_put rows first z some inside =
    let next : first - 1 + 1 ≡ first = omega arith in
    drop-set rows (first - 1) z (omega arith) ∙ ap (λ n. z ∷ drop n rows) next

pub behind_none : {j : Job} {before : List Operation} {starts : List ℤ} → Behind j before starts → before ≡ [] → starts ≡ latests j
behind_none {j} b none = b.known ∙ ap₂ (λ os rest. latests_from j (length os + 1) rest) none (sym (ap (λ os. os ++ b.later) none) ∙ b.parts)
