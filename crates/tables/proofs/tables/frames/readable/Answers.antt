use Rattle.std.proofs.Common.{◌≡◌, ℕ, zero, suc, List, refl, ap, ◌∙◌}
use Rattle.std.proofs.lemmas.Option.{unwrap_or-slice_get}
use Rattle.std.specs.Option.{unwrap_or}
use Rattle.rules.specs.Frames.{readable}
use Rattle.rules.specs.Jobs.{numbered}
use Rattle.tables.proofs.tables.frames.readable.Goals as goal

by_number : (ready : List ℕ) (n : ℕ) → unwrap_or (numbered ready n) 1 ≡ readable ready n
by_number ready zero = refl
by_number ready (suc p) = unwrap_or-slice_get ready p 1

pub returns : goal.returns
returns c = c.unwrap_or.ensures ∙ ap (λ r. unwrap_or r 1) c.numbered.ensures ∙ by_number c.args.ready.now c.args.operand
