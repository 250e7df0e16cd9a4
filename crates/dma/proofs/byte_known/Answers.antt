-- `dma::byte_known` meets its contract. Assumes nothing.
use Rattle.dma.proofs.Laws.{write-command, byte-there}
use Rattle.rules.specs.Calls.{is_none}
use mathlib.Core.Path.{sym, ◌∙◌}
use Rattle.dma.proofs.byte_known.Goals as goal

pub returns-then-within : goal.returns-then-within
unfolding is_none
returns-then-within c v = rw (write-command _ v c.requires (sym c.within.ensures ∙ c.if-within.true)) c.if-within.true

pub returns-else-within : goal.returns-else-within
returns-else-within c v = c.within-else-within.ensures ∙ byte-there _ v c.requires (sym c.within.ensures ∙ c.if-within.false)
