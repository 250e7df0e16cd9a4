-- `intc::read_word` meets its contract. One line for each arm. Assumes nothing.
use Rattle.masks.proofs.Ranges.{never}
use Rattle.rules.specs.Registers.{controller_read, look_up, controller_cells}
use borrow.Author.Tests.{ne_eqb}
use Rattle.intc.proofs.read_word.Goals as goal

pub returns-in-0 : goal.returns-in-0
unfolding controller_read look_up controller_cells
returns-in-0 c = rw (c.bytes_in.ensures, c.in-0.is)

pub returns-in-4 : goal.returns-in-4
unfolding controller_read look_up controller_cells
returns-in-4 c = rw (c.bytes_in-in-4.ensures, c.in-4.is)

pub returns-in-8 : goal.returns-in-8
unfolding controller_read look_up controller_cells
returns-in-8 c = rw (c.bytes_in-in-8.ensures, c.in-8.is)

pub returns-in-12 : goal.returns-in-12
unfolding controller_read look_up controller_cells
returns-in-12 c = rw (c.bytes_in-in-12.ensures, c.in-12.is)

pub returns-in-16 : goal.returns-in-16
unfolding controller_read look_up controller_cells
returns-in-16 c = rw (c.bytes_in-in-16.ensures, c.in-16.is)

pub returns-in-20 : goal.returns-in-20
unfolding controller_read look_up controller_cells
returns-in-20 c = rw (c.bytes_in-in-20.ensures, c.in-20.is)

pub returns-in_default : goal.returns-in_default
unfolding controller_read look_up controller_cells
returns-in_default c =
    let m = c.in_default.in_default-own.rest in
    simp (ne_eqb _ _ m.0.0.0.0.0.1, ne_eqb _ _ m.0.0.0.0.1, ne_eqb _ _ m.0.0.0.1, ne_eqb _ _ m.0.0.1, ne_eqb _ _ m.0.1, ne_eqb _ _ m.1, never)
