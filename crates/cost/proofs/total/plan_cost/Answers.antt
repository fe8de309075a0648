use Rattle.std.proofs.Common.{rules, tests, ap, ◌∙◌, arith}
use Rattle.std.proofs.lemmas.Iterator.{YieldsList-from_slice, YieldsList-from_zip}
use Rattle.std.proofs.lemmas.Iterator.Consumers.{YieldsList-at, fold_from_yields_List}
use Rattle.plan.proofs.Numbers.{counted}
use Rattle.plan.specs.Units.{units}
use Rattle.schemes.specs.Costs.{total_from}
use Rattle.schemes.proofs.Totals.{spend, total_zip}
use Rattle.cost.proofs.total.plan_cost.Goals as goal

pub returns : goal.returns
returns g c =
    fold_from_yields_List _ (spend (g.S.Scheme.means c.args.scheme.now) (units c.args.draft.job.now c.args.draft.slots.now)) c.zero.result c.fold.result c.fold.ensures.ran
    (YieldsList-from_zip (YieldsList-at c.zip.ensures.first (counted c.new.result c.new.ensures.start c.new.ensures.exhausted)) (YieldsList-from_slice c.args.draft.job.now.kinds cc))
    (λ a x b q k. search (rules, tests))
    ∙ total_zip (g.S.Scheme.means c.args.scheme.now) (units c.args.draft.job.now c.args.draft.slots.now) c.zero.result 1 c.new.result.end c.args.draft.job.now.kinds (omega (arith, c.kinds.ensures.valid.few_kinds, c.new.ensures.end))
    ∙ ap (λ v. total_from (g.S.Scheme.means c.args.scheme.now) v 1 c.args.draft.job.now.kinds (units c.args.draft.job.now c.args.draft.slots.now)) c.zero.ensures
