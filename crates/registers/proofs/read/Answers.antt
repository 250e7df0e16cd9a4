-- `registers::read` meets its contract. Assumes nothing.
use Rattle.registers.proofs.Laws.{read_no-size, read_no_block, read_dma_after, read_controller-after}
use Rattle.rules.specs.Registers.{block_of}
use native.Mathlib.Omega.{arith}
use Prim.Native.Nat.{suc, ◌-◌}
use mathlib.Core.Path.{◌≡◌, sym, ◌∙◌}
use Rattle.registers.proofs.read.Goals as goal

pub returns-then-bad_size : goal.returns-then-bad_size
returns-then-bad_size c = read_no-size _ _ _ (sym c.bad_size.ensures ∙ c.if-bad_size.true)

pub returns-then-not-in_blocks : goal.returns-then-not-in_blocks
returns-then-not-in_blocks c = read_no_block _ _ _ (sym c.bad_size.ensures ∙ c.if-bad_size.false) (sym c.in_blocks.ensures ∙ c.if-not-in_blocks.true)

pub block_of-block-requires : goal.block_of-block-requires
block_of-block-requires c = sym c.in_blocks.ensures ∙ c.if-not-in_blocks.false

pub read_dma-requires : goal.read_dma-requires
read_dma-requires c = (omega arith, sym c.bad_size.ensures ∙ c.if-bad_size.false)

pub returns-in-0 : goal.returns-in-0
returns-in-0 c =
    c.read_dma.ensures
    ∙ read_dma_after _ _ _ (sym c.bad_size.ensures ∙ c.if-bad_size.false) (sym c.in_blocks.ensures ∙ c.if-not-in_blocks.false) (sym c.block_of-block.ensures.0 ∙ c.in-0.is)

pub returns-in_default : goal.returns-in_default
returns-in_default c =
    let k = c.block_of-block.result in
    let z : block_of c.args.address ≡ suc (k - 1) = omega (arith, c.block_of-block.ensures.0, c.in_default.in_default-own.rest) in
    c.read_controller.ensures
    ∙ read_controller-after _ _ _ (sym c.bad_size.ensures ∙ c.if-bad_size.false) (sym c.in_blocks.ensures ∙ c.if-not-in_blocks.false) (k - 1) z
