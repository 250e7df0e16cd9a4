-- `dma_commands::commands` meets its contract: one command after another. Assumes nothing.
use Rattle.dma_commands.proofs.Laws.{in_row}
use Rattle.act.specs.Worlds.{came_to}
use Rattle.dma_commands.proofs.commands.Goals as goal

pub returns : goal.returns
returns c base lent d w m e =
    let a = c.args in
    in_row base lent a.k a.v (came_to a.s d w a.journal.now a.table.now m)
    (c.command-a.ensures base lent d w m e)
    (c.command-b.ensures base lent d w m e)
    (c.command-c.ensures base lent d w m e)
    (c.command.ensures base lent d w m e)
