-- `registers::is_priority` meets its contract. Assumes nothing.
use Rattle.dma_read.specs.Access.{is_priority}
use borrow.Author.Tests.{ne_eqb}
use Rattle.registers.proofs.is_priority.Goals as goal

pub returns-then-size-ne1 : goal.returns-then-size-ne1
unfolding is_priority
returns-then-size-ne1 c = rw (ne_eqb _ _ c.if-size-ne1.true)

pub returns : goal.returns
unfolding is_priority
returns c = rw c.if-size-ne1.false c.within.ensures
