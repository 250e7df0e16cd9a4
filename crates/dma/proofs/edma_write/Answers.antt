-- `dma::edma_write` meets its contract: the table, a byte, a word, or nothing. Assumes nothing.
use Rattle.dma.proofs.Laws.{write-table, write_none}
use Rattle.dma_read.proofs.Laws.{in_table_lem}
use Rattle.masks.proofs.Ranges.{within_true}
use Rattle.act.proofs.Laws.{on-nothing}
use Rattle.rules.specs.Calls.{or_nothing}
use native.Mathlib.Omega.{arith}
use mathlib.Core.Path.{sym, ◌∙◌}
use Rattle.dma.proofs.edma_write.Goals as goal

pub overflow_sub-off : goal.overflow_sub-off
overflow_sub-off c = omega (arith, within_true _ _ _ (sym c.within.ensures ∙ c.if-within.true))

pub tcd_write-requires : goal.tcd_write-requires
tcd_write-requires c =
    let e = in_table_lem _ c.within.ensures c.if-within.true in
    (c.requires.0.sized, omega (arith, c.requires.0.inside e, within_true _ _ _ (sym c.within.ensures ∙ c.if-within.true)))

pub returns-then-within : goal.returns-then-within
unfolding or_nothing
returns-then-within c base lent d w m e = rw (write-table _ _ _ (in_table_lem _ c.within.ensures c.if-within.true)) (c.tcd_write.ensures base lent d w m)

pub byte_written-requires : goal.byte_written-requires
byte_written-requires c = (in_table_lem _ c.within.ensures c.if-within.false, rw c.in-1.is at c.requires.1)

pub word_written-requires : goal.word_written-requires
word_written-requires c = in_table_lem _ c.within.ensures c.if-within.false

pub returns-in_default : goal.returns-in_default
unfolding or_nothing
returns-in_default c base lent d w m e =
    rw (write_none _ _ (in_table_lem _ c.within.ensures c.if-within.false) _ c.in_default.in_default-own.rest.0.1 c.in_default.in_default-own.rest.1) (sym (on-nothing base lent _))
