use Rattle.std.proofs.Common.{rules, tests, arith, ◌∙◌, ap, length}
use Rattle.std.proofs.lemmas.Iterator.{YieldsList-from_slice, YieldsList-from_zip, cases_from_all}
use Rattle.std.proofs.lemmas.Iterator.Consumers.{YieldsList-at}
use Rattle.plan.proofs.Numbers.{counted}
use Rattle.plan.proofs.Standing.{plan_told, FitsThere}
use Rattle.plan.proofs.draft.Draft.is_plan.Goals as goal

pub returns : goal.returns
returns c =
    plan_told _ _ c.new.result.end (omega (arith, c.operations-operations.ensures.valid.few_operations, c.new.ensures.end)) (c.if-self-operations.false ∙ ap length c.operations-operations.ensures.exact) _
    (cases_from_all c.all.new.self _ _
    (FitsThere c.args.self.job.now c.args.self.slots.now)
    (λ x. FitsThere c.args.self.job.now c.args.self.slots.now x → ⊥)
    c.all.ensures.ran
    (YieldsList-from_zip (YieldsList-at c.zip-2.ensures.first (counted c.new.result c.new.ensures.start c.new.ensures.exhausted))
    (YieldsList-at c.zip-2.ensures.second
    (YieldsList-from_zip {s = c.zip.result} (YieldsList-from_slice c.args.self.job.now.operations cc) (YieldsList-from_slice c.args.self.slots.now cc))))
    (λ x q k. search (rules, tests)) (λ x q k. search (rules, tests)))
