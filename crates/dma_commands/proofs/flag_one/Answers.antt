-- `dma_commands::flag_one` meets its contract. Assumes nothing.
use Rattle.std.specs.Prelude.{Ok}
use Rattle.dma_commands.proofs.Laws.{flag_done}
use native.Mathlib.Omega.{arith}
use mathlib.Core.Path.{◌∙◌}
use Rattle.dma_commands.proofs.flag_one.Goals as goal

pub returns : goal.returns
returns g c made makes base lent d w m =
    let a = c.args in
    flag_done base lent (Ok a.c) d w a.journal.now a.table.now m made a.ch (omega arith) (c.from-b.ensures ∙ c.get.ensures) (makes _ _ (omega arith) c.flagged.ensures) (c.store_table.ensures base lent d w m)
