-- `dma::byte_written` meets its contract: a command, or nothing. Assumes nothing.
use Rattle.dma.proofs.Laws.{write-command, byte_none}
use Rattle.masks.proofs.Ranges.{within_true}
use Rattle.act.proofs.Laws.{on-nothing}
use Rattle.rules.specs.Calls.{or_nothing}
use native.Mathlib.Omega.{arith}
use mathlib.Core.Path.{sym, ◌∙◌}
use Rattle.dma.proofs.byte_written.Goals as goal

pub overflow_sub-off : goal.overflow_sub-off
overflow_sub-off c = omega (arith, within_true _ _ _ (sym c.within.ensures ∙ c.if-within.true))

pub command-requires : goal.command-requires
command-requires c = omega (arith, within_true _ _ _ (sym c.within.ensures ∙ c.if-within.true))

pub returns-then-within : goal.returns-then-within
unfolding or_nothing
returns-then-within c base lent d w m e = rw (write-command _ _ c.requires.0 (sym c.within.ensures ∙ c.if-within.true)) (c.command.ensures base lent d w m e)

pub returns : goal.returns
unfolding or_nothing
returns c base lent d w m e = rw (byte_none _ _ c.requires.0 (sym c.within.ensures ∙ c.if-within.false) c.requires.1) (sym (on-nothing base lent _))
