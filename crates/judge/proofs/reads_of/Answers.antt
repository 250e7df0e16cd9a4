-- `judge::reads_of` meets its contract. Assumes nothing.
use Rattle.judge.proofs.Cases.{reads_so}
use Rattle.judge.proofs.reads_of.Goals as goal

pub returns : goal.returns
returns c = reads_so _ _ c.minor_bytes-n.ensures.0 c.before.size_of.ensures.0 c.whole_sizes.ensures
