-- `dma_read::edma_read` meets its contract. Assumes nothing.
use Rattle.dma_read.proofs.Laws.{in_table_lem, read_table, read_no-size}
use Rattle.masks.proofs.Ranges.{within_true}
use native.Mathlib.Omega.{arith}
use mathlib.Core.Path.{sym, ◌∙◌}
use Rattle.dma_read.proofs.edma_read.Goals as goal

pub overflow_sub-off : goal.overflow_sub-off
overflow_sub-off c = omega (arith, within_true _ _ _ (sym c.within.ensures ∙ c.if-within.true))

pub tcd_read-requires : goal.tcd_read-requires
tcd_read-requires c =
    let e = in_table_lem _ c.within.ensures c.if-within.true in
    (c.requires.sized, omega (arith, c.requires.inside e, within_true _ _ _ (sym c.within.ensures ∙ c.if-within.true)))

pub returns-then-within : goal.returns-then-within
returns-then-within c = read_table _ _ _ (in_table_lem _ c.within.ensures c.if-within.true) c.tcd_read.ensures

pub read_byte-requires : goal.read_byte-requires
read_byte-requires c = in_table_lem _ c.within.ensures c.if-within.false

pub read_word-requires : goal.read_word-requires
read_word-requires c = in_table_lem _ c.within.ensures c.if-within.false

pub returns-in_default : goal.returns-in_default
returns-in_default c = read_no-size _ _ (in_table_lem _ c.within.ensures c.if-within.false) _ c.in_default.in_default-own.rest.0.1 c.in_default.in_default-own.rest.1
