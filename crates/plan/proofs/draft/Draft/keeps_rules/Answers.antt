use Rattle.std.proofs.Common.{sym, ◌∙◌}
use Rattle.std.proofs.lemmas.Bool.{both_ways}
use Rattle.plan.proofs.Keeping.{told_apart}
use Rattle.plan.proofs.draft.Draft.keeps_rules.Goals as goal
use Rattle.plan.proofs.draft.Draft.keeps_rules.Goals.{then-is_done, else-is_done}

pub returns-then-is_done-2 : goal.returns-then-is_done-2
returns-then-is_done-2 c =
    elim c.if-is_done.branch [
      | then-is_done w ↦ told_apart c.in-Some.ensures c.stands_apart.result (c.is_done.ensures.0 w.if-is_done.true) (w.is_done-then-is_done.ensures.0 (sym w.value-is ∙ c.if-is_done-2.true)) c.stands_apart.ensures
      | else-is_done w ↦ absurd (both_ways _ w.if-is_done.false (sym w.value-is ∙ c.if-is_done-2.true))
    ]
