use Rattle.std.proofs.Common.{◌≡◌, Some, sym, ◌∙◌, arith, w16, SFits, rules}
use Rattle.std.proofs.lemmas.Int.{to_z-of_z, to_z_pos}
use Rattle.std.proofs.lemmas.Result.{err_from_is_err_and}
use Rattle.rules.specs.Frames.{FramesOf}
use Rattle.rules.specs.Jobs.{numbered}
use Rattle.rules.proofs.FramesRight.{frames_right}
use Rattle.job.proofs.Questions.{refused, not_held, within, start_small, frame_told}
use Rattle.job.proofs.framed.Job.frame.Goals as goal

pub returns-in_err-frame-clause-exact : goal.returns-in_err-frame-clause-exact
returns-in_err-frame-clause-exact c =
    let kept : FramesOf c.args.self.now c.frames.result.now = record { earliest = c.frames.ensures.earliest; latest = c.frames.ensures.latest } in
    let r = refused c.numbered.result _ _ (sym c.ok_or.ensures.value ∙ c.in_err-frame.was) in
    let p = err_from_is_err_and c.from_residual.result c.from_residual.ensures.1 in
    rw (p.1, p.2, r.1) (not_held c.args.self.now c.frames.result.now kept c.args.number (sym c.numbered.ensures ∙ r.0))

pub overflow_cast-result : goal.overflow_cast-result
overflow_cast-result c =
    let kept : FramesOf c.args.self.now c.frames.result.now = record { earliest = c.frames.ensures.earliest; latest = c.frames.ensures.latest } in
    omega (arith, start_small c.args.self.now c.frames.result.now kept c.args.number c.in_ok-frame.frame (sym c.numbered.ensures ∙ c.in_ok-frame.ensures.ok_part) c.frames.ensures.valid)

pub returns-clause-exact : goal.returns-clause-exact
returns-clause-exact c =
    let kept : FramesOf c.args.self.now c.frames.result.now = record { earliest = c.frames.ensures.earliest; latest = c.frames.ensures.latest } in
    let row : numbered c.frames.result.now c.args.number ≡ Some c.in_ok-frame.frame = sym c.numbered.ensures ∙ c.in_ok-frame.ensures.ok_part in
    let small = start_small c.args.self.now c.frames.result.now kept c.args.number c.in_ok-frame.frame row c.frames.ensures.valid in
    let fits : SFits w16 c.in_ok-frame.frame.latest = search rules in
    frame_told c.args.self.now c.frames.result.now kept c.args.number c.in_ok-frame.frame row _ _ (to_z_pos w16 _ (omega (arith, small))) (to_z-of_z w16 _ fits)

pub returns-clause-framed : goal.returns-clause-framed
returns-clause-framed c =
    let kept : FramesOf c.args.self.now c.frames.result.now = record { earliest = c.frames.ensures.earliest; latest = c.frames.ensures.latest } in
    let w = within c.args.self.now c.frames.result.now kept c.args.number c.in_ok-frame.frame (sym c.numbered.ensures ∙ c.in_ok-frame.ensures.ok_part) in
    frames_right c.args.self.now c.frames.ensures.valid c.args.number w.0 w.1
