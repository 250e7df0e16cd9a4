-- `registers::in_blocks` meets its contract. Assumes nothing.
use Rattle.rules.specs.Registers.{in_blocks}
use Rattle.registers.proofs.in_blocks.Goals as goal

pub returns : goal.returns
unfolding in_blocks
returns c = c.within.ensures
