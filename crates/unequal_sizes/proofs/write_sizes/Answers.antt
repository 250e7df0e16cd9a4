-- `unequal_sizes::write_sizes` meets its contract, by the size. Assumes nothing.
use Rattle.std.proofs.Common.{arith}
use Rattle.equal_sizes.proofs.Laws.{bursting}
use Rattle.unequal_sizes.proofs.Unequal.{whole-units}
use Rattle.unequal_sizes.proofs.write_sizes.Goals as goal

pub write_bursts-requires : goal.write_bursts-requires
write_bursts-requires c =
    let p = c.requires in
    (bursting c.args.size p.0 (omega arith) (omega arith) (omega arith), p.0.most, whole-units c.args.size p.0 (omega arith) (omega arith), p.1)
