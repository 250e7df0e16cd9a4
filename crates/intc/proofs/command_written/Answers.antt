-- `intc::command_written` meets its contract. One line for each size. Assumes nothing.
use Rattle.intc.proofs.WriteLaws.{written_none, command_none}
use Rattle.intc.proofs.command_written.Goals as goal

pub returns-in_default : goal.returns-in_default
returns-in_default c = written_none _ _ (λ i. command_none _ _ i _ c.in_default.in_default-own.rest.0.1 c.in_default.in_default-own.rest.1)
