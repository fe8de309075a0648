-- Slots of one kind, each busy for r steps, that do not clash need many units.
use Rattle.std.specs.Prelude.{◌≡◌, ℕ, ◌+◌, ◌-◌, ◌*◌, ◌%◌, ◌<◌, ◌≤◌, List, length, slice_index_or}
use Rattle.std.proofs.Common.{sym, ap, ◌∙◌, inl, inr, ⊎_elim, arith, mod-lt}
use Rattle.std.specs.List.{AllByRecursion}
use Rattle.std.proofs.ByRecursion.{All-get_or}
use Rattle.std.proofs.lemmas.Bool.{cases_order}
use Rattle.plan.specs.declared.slot.Slot.{Slot}
use Rattle.plan.specs.Plans.{SameStep, Meet}
use Rattle.plan.proofs.Meets.{meet_sym}
use Rattle.floors.proofs.Pigeonhole.{pigeonhole, packed}
use Rattle.floors.proofs.Remainders.{offsets_same}
use Rattle.floors.proofs.Meets.{long_meet}
use Rattle.floors.proofs.Selected.{Pairs, pairs_getD}

-- at latency l the steps from s to e go into w cells, and only steps that are the same to a unit share a cell
pub record Folded (l s e w : ℕ) (cell : ℕ → ℕ) : Type 0 where
  pub below : (x : ℕ) → s ≤ x → x ≤ e → cell x < w
  pub same : (x y : ℕ) → s ≤ x → s ≤ y → cell x ≡ cell y → SameStep l x y

pub steps_folded : (l s e : ℕ) → Folded l s e (e + 1 - s) (λ x. x - s)
steps_folded l s e = record { below = λ x h h'. omega arith; same = λ x y h h' c. inl (omega arith) }

pub remainders_folded : (l s e : ℕ) → 0 < l → Folded l s e l (λ x. x % l)
remainders_folded l s e some = record { below = λ x h h'. mod-lt x some; same = λ x y h h' c. inr (some, c) }

-- slots on units 1 to u, no two of which clash
pub record Crowd (l r u : ℕ) (xs : List Slot) : Type 0 where
  pub busy : 1 ≤ r
  pub restarts : 0 < l → r ≤ l
  pub units : AllByRecursion (λ x. (1 ≤ x.unit) × (x.unit ≤ u)) xs
  pub apart : Pairs (λ x y. x.unit ≡ y.unit → Meet l r x.start y.start → ⊥) xs

-- a slot whose busy steps lie within steps s to e
abbrev pub Within : ℕ → ℕ → ℕ → Slot → Type 0
Within r s e x = (s ≤ x.start) × (x.start + r ≤ e + 1)

-- what the check takes for a slot past the list's end
abbrev no_slot : Slot
no_slot = record { start = 0; unit = 0 }

module _ {l r u : ℕ} {xs : List Slot} (crowd : Crowd l r u xs) where
  slot : ℕ → Slot
  slot c = slice_index_or xs c no_slot

  unit_range : (c : ℕ) → c < length xs → (1 ≤ (slot c).unit) × ((slot c).unit ≤ u)
  unfolding slot
  unit_range c h = All-get_or (λ x. (1 ≤ x.unit) × (x.unit ≤ u)) xs c no_slot h crowd.units

  no_meet : (c d : ℕ) → c < d → d < length xs → (slot c).unit ≡ (slot d).unit → Meet l r (slot c).start (slot d).start → ⊥
  unfolding slot
  no_meet c d before h = pairs_getD (λ x y. x.unit ≡ y.unit → Meet l r x.start y.start → ⊥) xs c d no_slot crowd.apart before h

  -- slots on one unit whose busy steps meet are one
  meet_one : (c d : ℕ) → c < length xs → d < length xs → (slot c).unit - 1 ≡ (slot d).unit - 1 → Meet l r (slot c).start (slot d).start → c ≡ d
  meet_one c d h h' e meet =
      let same : (slot c).unit ≡ (slot d).unit = omega (arith, unit_range c h, unit_range d h') in
      ⊎_elim
      (λ one. one)
      (⊎_elim
      (λ less. absurd (no_meet c d less h' same meet))
      (λ more. absurd (no_meet d c more h (sym same) (meet_sym l r (slot c).start (slot d).start meet))))
      (cases_order c d)

  -- .. and one slot is busy at a step once
  busy_once : (c d i k : ℕ) → c ≡ d → i < r → k < r → SameStep l ((slot c).start + i) ((slot d).start + k) → i ≡ k
  busy_once c d i k one h h' same =
      let starts : (slot d).start ≡ (slot c).start = cc in
      ⊎_elim
      (λ step. omega arith)
      (λ left.
      let again = crowd.restarts left.0 in
      offsets_same l (slot c).start i k (omega arith) (omega arith) (left.1 ∙ ap (λ a. (a + k) % l) starts))
      same

  -- steps that go into w cells have room for w busy steps on each unit
  pub crowd_fits : {s e w : ℕ} {cell : ℕ → ℕ} → AllByRecursion (Within r s e) xs → Folded l s e w cell → length xs * r ≤ w * u
  unfolding slot
  crowd_fits {s} {e} {w} {cell} inside fold =
      packed {row = λ c. (slot c).unit - 1} {cell = λ c i. cell ((slot c).start + i)} (record {
        in_row = λ c h. omega (arith, unit_range c h);
        in_cell = λ c i h b. let at = within c h in fold.below ((slot c).start + i) (omega arith) (omega arith);
        apart = λ c d i k h h' b b' rows cells.
            let same = fold.same ((slot c).start + i) ((slot d).start + k) (omega (arith, within c h)) (omega (arith, within d h')) cells in
            let one = meet_one c d h h' rows (i, k, b, b', same) in
            (one, busy_once c d i k one b b' same);
      }) crowd.busy
    where
      within : (c : ℕ) → c < length xs → Within r s e (slot c)
      within c h = All-get_or (Within r s e) xs c no_slot h inside

  -- where any two starts clash, each slot has a unit of its own
  pub crowd_alone : 0 < l → l < 2 * r → length xs ≤ u
  crowd_alone some much =
      pigeonhole (length xs) u (λ c. (slot c).unit - 1) (record {
        below = λ c h. omega (arith, unit_range c h);
        apart = λ c d h h' same. meet_one c d h h' same (long_meet l r (slot c).start (slot d).start some much);
      })
