-- `judge::unit_of` meets its contract. Assumes nothing.
use Rattle.judge.proofs.Cases.{parted}
use Rattle.judge.proofs.unit_of.Goals as goal

pub returns : goal.returns
returns c = parted _ c.requires.which c.min.ensures
