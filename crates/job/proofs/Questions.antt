-- The frame that a job keeps is the one that is asked for.
use Rattle.std.proofs.Common.{◌≡◌, ℕ, zero, suc, ◌≤◌, false, List, [], length, get_or, ℤ, pos, None, Some, Ok, Err, Option, refl, sym, ap, ◌∙◌, arith}
use Rattle.std.proofs.lemmas.Bool.{and_from, le-leb}
use Rattle.std.proofs.lemmas.Bool.Decides.{nat_tests}
use Rattle.std.proofs.lemmas.List.{get_or-map, length-map}
use Rattle.std.proofs.lemmas.Option.{none-some, slice_get_within, get_or_from_slice_get}
use Rattle.std.specs.Option.{ok_or}
use Rattle.rules.specs.declared.frame.Frame.{Frame}
use Rattle.rules.specs.declared.refusal.Refusal.{Refusal}
use Rattle.rules.specs.Frames.{FramesOf, Framed, earliest_start, latest_start, holds, frame_of}
use Rattle.rules.specs.Jobs.{Job, Valid, numbered}
use Rattle.rules.proofs.Earliest.{earliests_length}
use Rattle.rules.proofs.FramesRight.{earliest_small, frames_right}
use Rattle.rules.proofs.Numbered.{nth_within, numbered_within}
use Rattle.rules.proofs.Tests.{where_on, where_off}

-- what was refused was not there
pub refused : {X : Type 0} (o : Option X) (e why : Refusal) → ok_or o e ≡ Err why → (o ≡ None) × (why ≡ e)
refused None e why is = (refl, cc)
refused (Some x) e why is = absurd (cc)

absent : {X : Type 0} (xs : List X) (n : ℕ) → numbered xs n ≡ None → 1 ≤ n → n ≤ length xs → ⊥
absent xs zero none some few = omega arith
absent xs (suc i) none some few = let k = nth_within xs i few in none-some k.0 (sym none ∙ k.1)

pub frame_held : (j : Job) (n : ℕ) (a z : ℤ) → 1 ≤ n → n ≤ length j.operations → a ≡ pos (earliest_start j n) → z ≡ latest_start j n → Ok (a, z) ≡ frame_of j n
frame_held j n a z some held start end =
    where_on (λ r. Ok (a, z) ≡ r) (holds j n) _ _ (and_from _ _ (le-leb 1 n some) (le-leb n (length j.operations) held)) (λ _. λ i. Ok (start i, end i))

module _ (j : Job) (fs : List Frame) (kept : FramesOf j fs) where
  many : length fs ≡ length j.operations
  many = sym (length-map fs (λ (f : Frame). f.earliest)) ∙ ap length kept.earliest ∙ earliests_length j [] j.operations

  pub not_held : (n : ℕ) → numbered fs n ≡ None → Err 15 ≡ frame_of j n
  not_held n none = where_off (λ r. Err 15 ≡ r) (holds j n) _ _ (unheld (absent fs n none) many) refl
    where
      unheld : (1 ≤ n → n ≤ length fs → ⊥) → length fs ≡ length j.operations → holds j n ≡ false
      unheld without size = grind (arith, nat_tests)

  -- each row is what a frame is to be
  pub all_framed : Valid j → (n : ℕ) → 1 ≤ n → n ≤ length fs → Framed j n
  all_framed valid n some few = frames_right j valid n some (omega (arith, many))

  -- row n of the frames
  module _ (n : ℕ) (f : Frame) (row : numbered fs n ≡ Some f) where
    pub within : (1 ≤ n) × (n ≤ length j.operations)
    within = let w = numbered_within fs n f row in (w.0, omega (arith, w.1, many))

    pub start_is : earliest_start j n ≡ f.earliest
    start_is = go n row
      where
        go : (n : ℕ) → numbered fs n ≡ Some f → earliest_start j n ≡ f.earliest
        go zero e = absurd (none-some f e)
        go (suc i) e =
            ap (λ xs. get_or xs i 0) (sym kept.earliest)
            ∙ get_or-map (λ (f : Frame). f.earliest) fs i f 0 (slice_get_within fs i f e)
            ∙ ap (λ (g : Frame). g.earliest) (get_or_from_slice_get fs i f f e)

    end_is : latest_start j n ≡ f.latest
    end_is = go n row
      where
        go : (n : ℕ) → numbered fs n ≡ Some f → latest_start j n ≡ f.latest
        go zero e = absurd (none-some f e)
        go (suc i) e =
            ap (λ xs. get_or xs i (pos 0)) (sym kept.latest)
            ∙ get_or-map (λ (f : Frame). f.latest) fs i f (pos 0) (slice_get_within fs i f e)
            ∙ ap (λ (g : Frame). g.latest) (get_or_from_slice_get fs i f f e)

    -- it fits in 15 bits
    pub start_small : Valid j → f.earliest ≤ 512
    start_small valid =
        let few = valid.few_operations in
        omega (arith, within, start_is, earliest_small j valid n n (omega arith) within.0 within.1)

    pub frame_told : (a z : ℤ) → a ≡ pos f.earliest → z ≡ f.latest → Ok (a, z) ≡ frame_of j n
    frame_told a z start end = frame_held j n a z within.0 within.1 (start ∙ ap pos (sym start_is)) (end ∙ sym end_is)
