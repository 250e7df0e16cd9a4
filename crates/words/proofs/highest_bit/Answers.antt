-- `words::highest_bit` meets its contract: the mask lies between the bit's power and the next. Assumes nothing.
use Rattle.words.proofs.Highest.{highest_between}
use Rattle.words.proofs.highest_bit.Goals as goal

pub returns : goal.returns
returns c =
    let log = c.ilog2.ensures in
    (highest_between _ _ log.bound log.power_le log.next_power_gt, log.bound)
