use Rattle.std.proofs.Common.{◌≡◌, suc, ◌+◌, ◌*◌, ◌∷◌, ◌⊎◌, inl, inr, length, pos, ◌-ℤ◌, to_z, of_z, w16, sym, ap, ap₂, ◌∙◌, subst, arith, rules}
use Rattle.std.specs.Int.{int_min}
use Rattle.std.proofs.lemmas.Int.{to_z-of_z}
use Rattle.std.proofs.lemmas.Slice.Zip.{either_empty_from_Zip}
use Rattle.std.specs.Iterator.Adapters.{zip_first, zip_second}
use Rattle.std.specs.Slice.Iter.{iter_rest}
use Rattle.std.proofs.lemmas.Int.{ints}
use Rattle.rules.specs.Frames.{before_users, last_start, latests_from}
use Rattle.rules.specs.Jobs.{duration_of}
use Rattle.std.proofs.lemmas.List.{take_all, length-take}
use Rattle.rules.proofs.Durations.{duration_short}
use Rattle.rules.proofs.Latest.{latests_length}
use Rattle.tables.proofs.LatestLoop.{Within, within_lower, latests_within, users_more, users_done, limit_used}
use Rattle.tables.proofs.tables.Tables.latest_start.Goals as goal
use Rattle.tables.proofs.tables.Tables.latest_start.Goals.{then-user-number-via-then-user-number, then-user-number-via-else-user-number+then-user-number-2}

pub slice_bounds-users-end : goal.slice_bounds-users-end
slice_bounds-users-end c =
    let many = ap length c.requires.known ∙ latests_length c.args.self.now (c.args.number + 1) c.args.later.now in
    omega (arith, many, length-take (length c.args.starts.now) c.args.later.now)

pub loop-user-init : goal.loop-user-init
loop-user-init c =
    let j = c.args.self.now in
    let n = c.args.number in
    let d = duration_of j c.args.operation in
    let it = c.into_iter-user-iterator.result in
    let many : length c.args.starts.now ≡ length c.args.later.now = ap length c.requires.known ∙ latests_length j (n + 1) c.args.later.now in
    let first : iter_rest (zip_first it) ≡ c.args.later.now = ap (λ i. iter_rest (zip_first i)) c.into_iter-user-iterator.ensures.into_iter_gives ∙ ap iter_rest c.zip-user-items.ensures.first ∙ c.iter.ensures.rest ∙ take_all (length c.args.starts.now) c.args.later.now (omega (arith, many)) in
    let second : iter_rest (zip_second it) ≡ c.args.starts.now = ap (λ i. iter_rest (zip_second i)) c.into_iter-user-iterator.ensures.into_iter_gives ∙ c.zip-user-items.ensures.second.0 in
    let steps : c.self.inside.steps ≡ j.steps = ap (λ x. x.steps) c.self.view_is in
    let low = within_lower (8 * length c.args.later.now) 512 (latests_from j (n + 1) c.args.later.now) (omega (arith, c.requires.few)) (latests_within j (omega (arith, steps, c.self.invariant.some_steps)) (omega (arith, steps, c.self.invariant.few_steps)) (n + 1) c.args.later.now) in (
      (tt, tt),
      tt,
      subst (Within 512) (sym (second ∙ c.requires.known)) low,
      ap (λ z. before_users n d z (iter_rest (zip_first it)) (iter_rest (zip_second it))) (omega (arith, ints, steps, c.self.invariant.few_steps, c.duration-duration.ensures.exact, duration_short j c.args.operation))
          ∙ ap₂ (before_users n d (last_start j d)) first second,
    )

pub loop-user-preserved-in-loop-user : goal.loop-user-preserved-in-loop-user
loop-user-preserved-in-loop-user c =
    let d = duration_of c.args.self.now c.args.operation in
    let o = c.in-Some.user.now in
    let z = c.in-Some.start.now in
    let by : (o.left ≡ c.args.number) ⊎ (o.right ≡ c.args.number) =
    elim c.then-user-number.branch [
      | then-user-number-via-then-user-number v ↦ inl v.if-user-number.true
      | then-user-number-via-else-user-number+then-user-number-2 v ↦ inr v.if-user-number-2.true
    ] in
    let steps = c.in-Some.ensures.steps in
    let within : Within 512 (z ∷ iter_rest (zip_second c.next.new.self)) = subst (Within 512) steps.1 c.loop-user.invariant.2 in
    let short = duration_short c.args.self.now c.args.operation in
    let less : to_z w16 (of_z w16 (to_z w16 (of_z w16 z) -ℤ to_z w16 c.duration-duration.result)) ≡ z -ℤ pos d = omega (arith, ints, within.0, within.1, short, c.duration-duration.ensures.exact) in
    let is : to_z w16 (of_z w16 c.min-latest.result) ≡ int_min (to_z w16 c.loop-user.latest-bits) (z -ℤ pos d) =
    to_z-of_z w16 _ (search rules) ∙ c.min-latest.ensures.value ∙ ap (int_min (to_z w16 c.loop-user.latest-bits)) less in (
      (tt, tt),
      tt,
      within.2,
      users_more c.args.number d o (to_z w16 c.loop-user.latest-bits) _ z _ _ _ _ steps.0 steps.1 (limit_used c.args.number d o (to_z w16 c.loop-user.latest-bits) _ z by is)
          ∙ c.loop-user.invariant.3,
    )

pub returns : goal.returns
returns c =
    let d = duration_of c.args.self.now c.args.operation in
    let it = c.loop-user.user-iterator in
    let first = users_done c.args.number d (to_z w16 c.loop-user.latest-bits) (iter_rest (zip_first it)) (iter_rest (zip_second it)) (either_empty_from_Zip it c.next.new.self c.next.result c.in-None.is c.next.ensures.steps) in
    let next : c.args.number + 1 ≡ suc c.args.number = omega arith in
    let known : c.args.starts.now ≡ latests_from c.args.self.now (suc c.args.number) c.args.later.now = c.requires.known ∙ ap (λ m. latests_from c.args.self.now m c.args.later.now) next in
    ap₂ (λ z zs. z ∷ zs) (sym first ∙ c.loop-user.invariant.3 ∙ ap (before_users c.args.number d (last_start c.args.self.now d) c.args.later.now) known) known
