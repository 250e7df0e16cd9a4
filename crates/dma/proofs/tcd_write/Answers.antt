-- `dma::tcd_write` meets its contract: the store, and then KICK. Assumes nothing.
use Rattle.dma.proofs.Laws.{table_wide, table-written}
use Rattle.dma_read.proofs.Laws.{small}
use Rattle.rules.proofs.Powers.{one_shl}
use Rattle.act.specs.Worlds.{came_to}
use native.Mathlib.Omega.{arith}
use Rattle.dma.proofs.tcd_write.Goals as goal

pub store_table-stored-requires : goal.store_table-stored-requires
store_table-stored-requires c = (omega arith, table_wide _ c.requires.0)

pub starts-on-requires : goal.starts-on-requires
starts-on-requires c = (omega (arith, small _ c.requires.0), (small _ c.requires.0).1)

pub overflow_shl-place : goal.overflow_shl-place
overflow_shl-place c = omega (arith, small _ c.requires.0)

pub returns : goal.returns
returns c base lent d w m =
    let a = c.args in
    let h = small _ c.requires.0 in
    table-written base lent d w a.off a.size a.v c.store_table-stored.result _ _ m (came_to a.s d w a.journal.now a.table.now m)
    (omega (arith, c.starts-on.ensures.1, h)) c.starts-on.ensures.0 (one_shl 64 _ (omega (arith, h)))
    (c.with_kick.ensures base lent d w _ _ m) (rw c.from.ensures at c.store_table-stored.ensures base lent d w m)
