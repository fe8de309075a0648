use Rattle.std.proofs.Common.{arith}
use Rattle.windows.proofs.Rounding.{above, rounded_up_is}
use Rattle.windows.proofs.timing.raise.raised.Goals as goal

pub returns : goal.returns
returns c =
    omega (arith, rounded_up_is c.args.work c.args.room c.requires, above c.args.floor c.args.work c.args.room c.requires c.if-floor-room.false)
