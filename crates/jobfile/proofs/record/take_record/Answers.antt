use Rattle.std.proofs.Common.{◌≡◌, ◌+◌, ◌-◌, ◌<◌, length, Some, Ok, sym, ap, ◌∙◌, subst, arith}
use Rattle.rules.specs.Edits.{edited}
use Rattle.rules.specs.Files.{edit_of, with_edit, with_record}
use Rattle.rules.proofs.Outcomes.{was_accepted}
use Rattle.jobfile.specs.Records.{Split}
use Rattle.jobfile.proofs.Records.{was_some, record_taken, split_parts, shorter}
use Rattle.jobfile.proofs.record.take_record.Goals as goal

pub returns : goal.returns
returns c =
    let j = c.args.tables.now in
    let bytes = c.args.bytes.now in
    let split : Split bytes (Some (c.in_ok-body.body, c.in_ok-body.after)) = subst (Split bytes) c.in_ok-body.ensures.ok_part c.split_record.ensures in
    let less : length c.in_ok-body.after.now < length bytes = shorter j 0 bytes _ split in
    let made : with_record j c.in_ok-body.body.now ≡ Ok c.edit.new.self =
    ap (with_edit j) (was_some _ (edit_of c.in_ok-body.body.now) (sym c.edit_of.ensures ∙ c.in_ok-edit_of.was)) ∙ was_accepted j (edited j c.in_ok-edit_of.field-0) c.edit.new.self c.in_ok-edit.ensures.exact in
    ((c.in_ok-body.body.now, split_parts bytes _ split, made), less, λ o. record_taken j o bytes _ c.edit.new.self (o + (length bytes - length c.in_ok-body.after.now)) split made (omega arith))
