-- `dma_commands::command` meets its contract: flags of descriptors, or numbers that stand alone. Assumes nothing.
use Rattle.dma_commands.proofs.Laws.{numbers_done}
use Rattle.act.proofs.Laws.{stays_refused}
use Rattle.rules.specs.Registers.{command}
use Rattle.dma_commands.proofs.command.Goals as goal

pub returns-in_err-c-in_default : goal.returns-in_err-c-in_default
returns-in_err-c-in_default c base lent d w m e = stays_refused base lent _ c.from_residual.result d w _ _ m c.from_residual.ensures c.in_err-c-in_default.was

pub returns-in-6 : goal.returns-in-6
unfolding command
returns-in-6 c base lent d w m e = rw c.in-6.is (c.set_starts.ensures base lent d w m)

pub returns-in-7 : goal.returns-in-7
unfolding command
returns-in-7 c base lent d w m e = rw c.in-7.is (c.clear_dones.ensures base lent d w m)

pub returns-in_ok-c-in_default : goal.returns-in_ok-c-in_default
returns-in_ok-c-in_default c base lent d w m e = numbers_done base lent _ d _ _ w _ _ m c.in_ok-c-in_default.was e c.scalar_command-c.ensures
