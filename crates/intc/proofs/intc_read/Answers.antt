-- `intc::intc_read` meets its contract. One line for each size. Assumes nothing.
use Rattle.intc.proofs.ReadLaws.{read_no-size}
use Rattle.intc.proofs.intc_read.Goals as goal

pub returns-in_default : goal.returns-in_default
returns-in_default c = read_no-size _ _ _ c.in_default.in_default-own.rest.0.0.1 c.in_default.in_default-own.rest.0.1 c.in_default.in_default-own.rest.1
