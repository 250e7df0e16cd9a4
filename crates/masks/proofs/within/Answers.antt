-- `masks::within` meets its contract: no number of the range is spent yet. Assumes nothing.
use Rattle.std.proofs.Common.{◌∙◌, rules}
use Rattle.rules.specs.Registers.{within}
use Rattle.masks.proofs.within.Goals as goal

pub returns : goal.returns
unfolding within
returns c = c.contains.ensures.value ∙ rw (c.new.ensures.start, c.new.ensures.end, c.new.ensures.exhausted) (search rules)
