use Rattle.std.proofs.Common.{rules, tests, length, take, ap, min, ◌≡◌, ◌∙◌}
use Rattle.std.specs.Slice.Iter.{iter_rest}
use Rattle.std.proofs.lemmas.Iterator.{YieldsList-from_slice, YieldsList-from_zip}
use Rattle.std.proofs.lemmas.Iterator.Consumers.{fold_from_yields_List}
use Rattle.plan.proofs.Heights.{higher, highest_cut}
use Rattle.plan.proofs.draft.Draft.units_of.Goals as goal

pub returns : goal.returns
returns c =
    let many = c.min-many.result in
    let rows = c.operations-operations.ensures.exact in
    let cut : many ≡ min (length c.args.self.job.now.operations) (length c.args.self.slots.now) =
    c.min-many.ensures ∙ ap (λ os. min (length os) (length c.args.self.slots.now)) rows in
    fold_from_yields_List _ (higher c.args.kind) 0 c.fold.result c.fold.ensures.ran
    (YieldsList-from_zip
    (YieldsList-from_slice (take many c.args.self.job.now.operations) (ap iter_rest c.zip-placed.ensures.first ∙ c.iter.ensures.rest ∙ ap (take many) rows))
    (YieldsList-from_slice (take many c.args.self.slots.now) c.zip-placed.ensures.second.0))
    (λ a x b q k. search (rules, tests))
    ∙ highest_cut c.args.kind many c.args.self.job.now.operations c.args.self.slots.now cut
