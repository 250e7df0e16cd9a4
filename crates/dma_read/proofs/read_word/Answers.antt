-- `dma_read::read_word` meets its contract. Assumes nothing.
use Rattle.dma_read.proofs.Laws.{read_cell}
use Rattle.rules.specs.Registers.{look_up, dma_cells}
use borrow.Author.Tests.{ne_eqb}
use Rattle.dma_read.proofs.read_word.Goals as goal

pub returns-in-0 : goal.returns-in-0
unfolding look_up dma_cells
returns-in-0 c = rw (← read_cell _ _ c.requires, c.in-0.is)

pub returns-in-4 : goal.returns-in-4
unfolding look_up dma_cells
returns-in-4 c = rw (← read_cell _ _ c.requires, c.in-4.is)

pub returns-in-8 : goal.returns-in-8
unfolding look_up dma_cells
returns-in-8 c = rw (c.bytes_in.ensures, ← read_cell _ _ c.requires, c.in-8.is)

pub returns-in-12 : goal.returns-in-12
unfolding look_up dma_cells
returns-in-12 c = rw (c.bytes_in-in-12.ensures, ← read_cell _ _ c.requires, c.in-12.is)

pub returns-in-16 : goal.returns-in-16
unfolding look_up dma_cells
returns-in-16 c = rw (c.bytes_in-in-16.ensures, ← read_cell _ _ c.requires, c.in-16.is)

pub returns-in-20 : goal.returns-in-20
unfolding look_up dma_cells
returns-in-20 c = rw (c.bytes_in-in-20.ensures, ← read_cell _ _ c.requires, c.in-20.is)

pub returns-in-32 : goal.returns-in-32
unfolding look_up dma_cells
returns-in-32 c = rw (c.bytes_in-in-32.ensures, ← read_cell _ _ c.requires, c.in-32.is)

pub returns-in-36 : goal.returns-in-36
unfolding look_up dma_cells
returns-in-36 c = rw (c.bytes_in-in-36.ensures, ← read_cell _ _ c.requires, c.in-36.is)

pub returns-in-40 : goal.returns-in-40
unfolding look_up dma_cells
returns-in-40 c = rw (c.bytes_in-in-40.ensures, ← read_cell _ _ c.requires, c.in-40.is)

pub returns-in-44 : goal.returns-in-44
unfolding look_up dma_cells
returns-in-44 c = rw (c.bytes_in-in-44.ensures, ← read_cell _ _ c.requires, c.in-44.is)

pub returns-in-48 : goal.returns-in-48
unfolding look_up dma_cells
returns-in-48 c = rw (← read_cell _ _ c.requires, c.in-48.is)

pub returns-in-52 : goal.returns-in-52
unfolding look_up dma_cells
returns-in-52 c = rw (← read_cell _ _ c.requires, c.in-52.is)

pub returns-in_default : goal.returns-in_default
unfolding look_up dma_cells
returns-in_default c = rw (← read_cell _ _ c.requires) (simp (ne_eqb _ _ c.in_default.in_default-own.rest.0.0.0.0.0.0.0.0.0.0.0.1, ne_eqb _ _ c.in_default.in_default-own.rest.0.0.0.0.0.0.0.0.0.0.1, ne_eqb _ _ c.in_default.in_default-own.rest.0.0.0.0.0.0.0.0.0.1, ne_eqb _ _ c.in_default.in_default-own.rest.0.0.0.0.0.0.0.0.1, ne_eqb _ _ c.in_default.in_default-own.rest.0.0.0.0.0.0.0.1, ne_eqb _ _ c.in_default.in_default-own.rest.0.0.0.0.0.0.1, ne_eqb _ _ c.in_default.in_default-own.rest.0.0.0.0.0.1, ne_eqb _ _ c.in_default.in_default-own.rest.0.0.0.0.1, ne_eqb _ _ c.in_default.in_default-own.rest.0.0.0.1, ne_eqb _ _ c.in_default.in_default-own.rest.0.0.1, ne_eqb _ _ c.in_default.in_default-own.rest.0.1, ne_eqb _ _ c.in_default.in_default-own.rest.1))
