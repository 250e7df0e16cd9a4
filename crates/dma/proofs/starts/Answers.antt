-- `dma::starts` meets its contract. Assumes nothing.
use Rattle.dma.specs.Started.{starts_in}
use borrow.Author.Tests.{le-ltb, lt-ltb}
use mathlib.Core.Path.{◌∙◌}
use native.Mathlib.Omega.{arith}
use Rattle.dma.proofs.starts.Goals as goal

pub returns-then-last-off : goal.returns-then-last-off
unfolding starts_in
returns-then-last-off c = (rw (lt-ltb _ _ c.if-last-off.true, ← (c.from-b.ensures ∙ c.get.ensures)) c.has_bit.ensures, omega arith)

pub returns-else-last-off : goal.returns-else-last-off
unfolding starts_in
returns-else-last-off c = (rw (le-ltb _ _ c.if-last-off.false), omega arith)
