-- `registers::block_of` meets its contract. Assumes nothing.
use Rattle.masks.proofs.Ranges.{within_true}
use Rattle.rules.specs.Registers.{in_blocks, block_of}
use native.Mathlib.Omega.{arith}
use mathlib.Core.Path.{refl}
use Rattle.registers.proofs.block_of.Goals as goal

pub overflow_sub-result : goal.overflow_sub-result
unfolding in_blocks
overflow_sub-result c = omega (arith, within_true 0xFC044000 0xFC053FFF c.args.address c.requires)

pub returns : goal.returns
unfolding in_blocks block_of
returns c = (refl, omega (arith, within_true 0xFC044000 0xFC053FFF c.args.address c.requires))
