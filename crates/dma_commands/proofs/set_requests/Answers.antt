-- `dma_commands::set_requests` meets its contract, by the act of the rules with what `waiting` ensures. Assumes nothing.
use Rattle.dma_commands.proofs.Laws.{requests}
use borrow.Author.Rules.{rules}
use Rattle.dma_commands.proofs.set_requests.Goals as goal

pub returns : goal.returns
returns c d e = requests d _ _ c.named-m.ensures (search rules) (search rules) (search rules) (rw e c.waiting.ensures)
