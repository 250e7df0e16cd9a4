-- `intc::read_half` meets its contract. One line for each arm. Assumes nothing.
use Rattle.masks.proofs.Ranges.{never}
use Rattle.rules.specs.Registers.{controller_read, look_up, controller_cells}
use borrow.Author.Tests.{ne_eqb}
use Rattle.intc.proofs.read_half.Goals as goal

pub returns-in-24 : goal.returns-in-24
unfolding controller_read look_up controller_cells
returns-in-24 c = rw (c.from.ensures, c.in-24.is)

pub returns-in_default : goal.returns-in_default
unfolding controller_read look_up controller_cells
returns-in_default c = simp (ne_eqb _ _ c.in_default.in_default-own.rest.1, never)
