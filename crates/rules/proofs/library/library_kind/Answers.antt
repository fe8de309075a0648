use Rattle.std.proofs.Common.{sym, ap, ◌∙◌}
use Rattle.rules.specs.Edits.{kind_of, kind_from}
use Rattle.rules.proofs.library.library_kind.Goals as goal

pub returns : goal.returns
returns c =
    c.try_from.ensures ∙ ap kind_of c.with_cap.ensures ∙ ap (λ u. kind_from u c.args.cap) (sym c.in_ok-unit.ensures.ok_part ∙ c.house_unit.ensures)
