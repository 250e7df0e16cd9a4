-- `sums::sources` meets its contract: bit 31. Assumes nothing.
use Rattle.rules.specs.Minor.{source_offset}
use Rattle.sums.proofs.sources.Goals as goal

pub returns : goal.returns
unfolding source_offset
returns c = c.maps.ensures
