-- `dma::edma_known` meets its contract. Assumes nothing.
use Rattle.dma.proofs.Laws.{write-table, write_none}
use Rattle.dma_read.proofs.Laws.{in_table_lem}
use Rattle.rules.specs.Calls.{is_none}
use Rattle.dma.proofs.edma_known.Goals as goal

pub returns-then-within : goal.returns-then-within
unfolding is_none
returns-then-within c v = rw (write-table _ v _ (in_table_lem _ c.within.ensures c.if-within.true))

pub byte_known-requires : goal.byte_known-requires
byte_known-requires c = in_table_lem _ c.within.ensures c.if-within.false

pub word_known-requires : goal.word_known-requires
word_known-requires c = in_table_lem _ c.within.ensures c.if-within.false

pub returns-in_default : goal.returns-in_default
unfolding is_none
returns-in_default c v = rw (write_none _ v (in_table_lem _ c.within.ensures c.if-within.false) _ c.in_default.in_default-own.rest.0.1 c.in_default.in_default-own.rest.1)
