-- `scan::is_within` meets its contract: what is below a power of two has nothing above it. Assumes nothing.
use Rattle.scan.proofs.Laws.{no_more}
use Rattle.scan.proofs.is_within.Goals as goal

pub returns : goal.returns
returns c = no_more c.args.byte c.args.bits
