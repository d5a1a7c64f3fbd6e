use Rattle.std.proofs.Common.{◌+◌, ◌^◌, ◌≤◌, arith}
use lib.IntN.{nat_abs}
use Rattle.value_domain.proofs.MoveLaws as mv
use Rattle.value_domain.proofs.variable.room.Goals as goal

pub returns-else-length-le16-clause-enough : goal.returns-else-length-le16-clause-enough
returns-else-length-le16-clause-enough c =
    let small : nat_abs c.args.offset ≤ 2 ^ 63 = mv.fits_abs c.args.offset c.ranges.offset in
    mv.wide_room c.args.length 0 c.args.offset c.requires small
