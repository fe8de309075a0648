use Rattle.std.proofs.Common.{◌<◌, length, sym, arith}
use Rattle.std.proofs.lemmas.Bool.Decides.{nat_tests}
use Rattle.rules.proofs.Changing.{kind_pushed}
use Rattle.rules.proofs.Outcomes.{kind_too_slow, kind_taken}
use Rattle.tables.specs.Tables.{made_up}
use Rattle.tables.proofs.tables.Tables.add_kind.Goals as goal

pub returns-then-not-restarts_within : goal.returns-then-not-restarts_within
returns-then-not-restarts_within c =
    let room : length c.self.inside.kinds.items < 8 = grind (arith, nat_tests) in
    rw (← c.self.view_is) (kind_too_slow (made_up c.self.inside) c.args.kind room (sym c.if-not-restarts_within.ensures))

pub invariant_of-self : goal.invariant_of-self
invariant_of-self c =
    let room : length c.self.inside.kinds.items < 8 = grind (arith, nat_tests) in
    kind_pushed (made_up c.self.inside) c.args.kind c.push.new.self.items c.self.invariant room (sym c.if-not-restarts_within.ensures) c.push.ensures.items

pub returns : goal.returns
returns c =
    let room : length c.self.inside.kinds.items < 8 = grind (arith, nat_tests) in
    rw (← c.self.view_is) (kind_taken (made_up c.self.inside) c.args.kind room (sym c.if-not-restarts_within.ensures) c.push.new.self.items c.push.ensures.items)
