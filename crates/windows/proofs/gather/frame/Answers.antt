use Rattle.std.proofs.Common.{ℕ, map, ap₂, ℤ, pos, sym, ap, ◌∙◌, arith, w16}
use Rattle.std.proofs.lemmas.Int.{to_z_pos}
use Rattle.std.proofs.lemmas.List.{length-map, get_or-map}
use Rattle.rules.specs.declared.frame.Frame.{Frame}
use Rattle.plan.specs.declared.slot.Slot.{Slot}
use Rattle.windows.proofs.Framing.{frame_placed, frame_open}
use Rattle.windows.proofs.gather.frame.Goals as goal

pub returns-in-Some : goal.returns-in-Some
returns-in-Some c =
    let fs = c.args.frames.now in
    let slot = c.in-Some.slot.now in
    let lookup = c.in-Some.ensures.lookup in
    let a = length-map fs (λ (f : Frame). f.earliest) in
    let z = length-map fs (λ (f : Frame). f.latest) in
    ap (λ (z : ℤ). (slot.start, z)) (to_z_pos w16 _ (omega arith))
    ∙ ap (λ (s : Slot). (s.start, pos s.start)) lookup.1
    ∙ sym (frame_placed (0, pos 0) slot c.args.placed.now (map (λ f. f.earliest) fs) (map (λ f. f.latest) fs) c.args.i (omega (arith, a)) (omega (arith, z)) lookup.3.0)

pub returns-in-None : goal.returns-in-None
returns-in-None c =
    let fs = c.args.frames.now in
    let none : Frame = record { earliest = 0; latest = pos 0 } in
    let a = length-map fs (λ (f : Frame). f.earliest) in
    let z = length-map fs (λ (f : Frame). f.latest) in
    ap₂ (λ (a : ℕ) (z : ℤ). (a, z)) (sym (get_or-map (λ (f : Frame). f.earliest) fs c.args.i none 0 c.requires)) (sym (get_or-map (λ (f : Frame). f.latest) fs c.args.i none (pos 0) c.requires))
    ∙ sym (frame_open (0, pos 0) c.args.placed.now (map (λ f. f.earliest) fs) (map (λ f. f.latest) fs) c.args.i (omega (arith, a)) (omega (arith, z)) c.in-None.ensures.lookup.3)
