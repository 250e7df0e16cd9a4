-- `words::without` meets its contract: `x & !k` takes away what is in `k`. Assumes nothing.
use Rattle.rules.proofs.Masks.{and_not}
use Rattle.words.proofs.without.Goals as goal

pub returns : goal.returns
returns c = and_not 64 _ _ c.ranges.x.fits c.ranges.k.fits
