-- `dma_read::tcd_read` meets its contract. Assumes nothing.
use Rattle.dma_read.proofs.Laws.{four}
use Rattle.rules.proofs.Typed.{table-size}
use native.Mathlib.Omega.{arith}
use Rattle.dma_read.proofs.tcd_read.Goals as goal

pub get-requires-in_default : goal.get-requires-in_default
get-requires-in_default c = omega (arith, table-size c.args.d c.well_formed.0, c.requires.1, four _ c.requires.0 c.in_default.in_default-own.rest.0.1 c.in_default.in_default-own.rest.1)

pub returns-in_default : goal.returns-in_default
returns-in_default c = rw (four _ c.requires.0 c.in_default.in_default-own.rest.0.1 c.in_default.in_default-own.rest.1) c.get-in_default.ensures
