use Rattle.std.proofs.Common.{◌≡◌, length, refl, ◌∙◌, rules}
use Rattle.std.proofs.lemmas.List.{length-set}
use Rattle.windows.proofs.Chains.{starts_more, links_more}
use Rattle.windows.proofs.stays.Stays.push.Goals as goal

pub invariant_of-self : goal.invariant_of-self
invariant_of-self c =
    let stays = c.args.self.now in
    let size : c.len.result ≡ length stays.linked.items = search rules in
    rw (c.push.ensures.items, size)
    (record {
      last_whole = length-set stays.last c.args.stay.begin _ ∙ stays.last_whole;
      starts = starts_more stays.linked.items _ stays.last stays.starts stays.last_whole;
      links = links_more stays.linked.items _ stays.last stays.starts stays.links refl;
    })
