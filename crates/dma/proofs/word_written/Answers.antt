-- `dma::word_written` meets its contract, by which arm it is. Assumes nothing.
use Rattle.dma.proofs.Laws.{write_word}
use Rattle.dma_commands.proofs.Laws.{numbers_done}
use Rattle.act.proofs.Laws.{stays_refused}
use Rattle.rules.specs.Registers.{pick, dma_arms}
use Rattle.rules.specs.Calls.{or_nothing}
use Rattle.dma.proofs.word_written.Goals as goal

pub returns-in_err-c-in_default : goal.returns-in_err-c-in_default
returns-in_err-c-in_default c base lent d w m e = stays_refused base lent _ c.from_residual.result d w _ _ m c.from_residual.ensures c.in_err-c-in_default.was

pub returns-in-24 : goal.returns-in-24
unfolding pick dma_arms or_nothing
returns-in-24 c base lent d w m e = rw (write_word _ _ c.requires, c.in-24.is) (c.commands.ensures base lent d w m e)

pub returns-in-28 : goal.returns-in-28
unfolding pick dma_arms or_nothing
returns-in-28 c base lent d w m e = rw (write_word _ _ c.requires, c.in-28.is) (c.commands-in-28.ensures base lent d w m e)

pub returns-in_ok-c-in_default : goal.returns-in_ok-c-in_default
returns-in_ok-c-in_default c base lent d w m e = rw (write_word _ _ c.requires) (numbers_done base lent _ d _ _ w _ _ m c.in_ok-c-in_default.was e (c.masks_written-c.ensures _))
