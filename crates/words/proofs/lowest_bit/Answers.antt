-- `words::lowest_bit` meets its contract. Assumes nothing.
use Rattle.std.proofs.Common.{refl}
use Rattle.rules.proofs.Masks.{lowest_lt}
use Rattle.rules.specs.Words.{lowest}
use Rattle.words.proofs.lowest_bit.Goals as goal

pub returns : goal.returns
unfolding lowest
returns c = (refl, lowest_lt _ c.requires c.ranges.x.fits)
