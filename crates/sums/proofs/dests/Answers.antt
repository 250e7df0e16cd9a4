-- `sums::dests` meets its contract: bit 30. Assumes nothing.
use Rattle.rules.specs.Minor.{dest_offset}
use Rattle.sums.proofs.dests.Goals as goal

pub returns : goal.returns
unfolding dest_offset
returns c = c.maps.ensures
