use Rattle.std.proofs.Common.{rules, tests, ◌≡◌, ◌∙◌, ◌-◌, ap, ap₂, length, min, take}
use Rattle.std.specs.Slice.Iter.{iter_rest}
use Rattle.std.proofs.lemmas.Iterator.{YieldsList-from_slice, YieldsList-from_zip, cases_from_all}
use Rattle.plan.specs.Plans.{Clash}
use Rattle.plan.proofs.Cutting.{zip_earlier}
use Rattle.plan.proofs.Standing.{apart_told}
use Rattle.plan.proofs.draft.Draft.stands_apart.Goals as goal

pub returns : goal.returns
returns c =
    let many = c.min-earlier.result in
    let rows = c.operations-operations.ensures.exact in
    let os = c.args.self.job.now.operations in
    let p = c.args.self.slots.now in
    let cut : many ≡ min (min (c.args.number - 1) (length os)) (length p) =
    c.min-earlier.ensures ∙ ap (λ n. min n (length p)) (c.min.ensures ∙ ap₂ min c.saturating_sub.ensures (ap length rows)) in
    apart_told _ _ c.args.number _ _ _
    (rw (zip_earlier (c.args.number - 1) many os p cut) at (cases_from_all c.all.new.self _ _
    (λ x. Clash c.args.self.job.now x.0 x.1 c.args.placement.operation c.args.placement.slot → ⊥)
    (λ x. Clash c.args.self.job.now x.0 x.1 c.args.placement.operation c.args.placement.slot)
    c.all.ensures.ran
    (YieldsList-from_zip
    (YieldsList-from_slice (take many os) (ap iter_rest c.zip-placed.ensures.first ∙ c.iter.ensures.rest ∙ ap (take many) rows))
    (YieldsList-from_slice (take many p) c.zip-placed.ensures.second.0))
    (λ x q k. search (rules, tests)) (λ x q k. search (rules, tests))))
