use Rattle.std.proofs.Common.{◌<◌, ◌&&◌, nat_le, length, sym, ap, ◌∙◌, arith}
use Rattle.std.proofs.lemmas.Bool.{and_left, and_right}
use Rattle.std.proofs.lemmas.Bool.Decides.{nat_tests}
use Rattle.rules.proofs.Changing.{operation_pushed}
use Rattle.rules.proofs.Outcomes.{kind_not_held, operand_not_held, operation_taken}
use Rattle.tables.specs.Tables.{made_up}
use Rattle.tables.proofs.tables.Tables.add_operation.Goals as goal

pub returns-then-not-kind_held : goal.returns-then-not-kind_held
returns-then-not-kind_held c =
    let room : length c.self.inside.operations.items < 64 = grind (arith, nat_tests) in
    kind_not_held c.args.self.now c.args.operation (rw (← c.self.view_is) room) (sym c.if-not-kind_held.ensures)

pub returns-then-not-operand_held : goal.returns-then-not-operand_held
returns-then-not-operand_held c =
    let room : length c.self.inside.operations.items < 64 = grind (arith, nat_tests) in
    operand_not_held c.args.self.now c.args.operation (rw (← c.self.view_is) room) (sym c.if-not-kind_held.ensures)
    (and_left _ _ (sym c.if-not-operand_held.ensures))

pub returns-then-not-operand_held-2 : goal.returns-then-not-operand_held-2
returns-then-not-operand_held-2 c =
    let room : length c.self.inside.operations.items < 64 = grind (arith, nat_tests) in
    operand_not_held c.args.self.now c.args.operation (rw (← c.self.view_is) room) (sym c.if-not-kind_held.ensures)
    (and_right _ _ (sym c.if-not-operand_held-2.ensures))

pub invariant_of-self : goal.invariant_of-self
invariant_of-self c =
    let room : length c.self.inside.operations.items < 64 = grind (arith, nat_tests) in
    operation_pushed (made_up c.self.inside) c.args.operation c.push.new.self.items c.self.invariant room
    (ap (λ j. nat_le 1 c.args.operation.kind && nat_le c.args.operation.kind (length j.kinds)) c.self.view_is ∙ sym c.if-not-kind_held.ensures)
    (ap (λ j. nat_le c.args.operation.left (length j.operations)) c.self.view_is ∙ sym c.if-not-operand_held.ensures)
    (ap (λ j. nat_le c.args.operation.right (length j.operations)) c.self.view_is ∙ sym c.if-not-operand_held-2.ensures)
    c.push.ensures.items

pub returns : goal.returns
returns c =
    let room : length c.self.inside.operations.items < 64 = grind (arith, nat_tests) in
    rw (← c.self.view_is)
    (operation_taken (made_up c.self.inside) c.args.operation room
    (ap (λ j. nat_le 1 c.args.operation.kind && nat_le c.args.operation.kind (length j.kinds)) c.self.view_is ∙ sym c.if-not-kind_held.ensures)
    (ap (λ j. nat_le c.args.operation.left (length j.operations)) c.self.view_is ∙ sym c.if-not-operand_held.ensures)
    (ap (λ j. nat_le c.args.operation.right (length j.operations)) c.self.view_is ∙ sym c.if-not-operand_held-2.ensures)
    c.push.new.self.items c.push.ensures.items)
