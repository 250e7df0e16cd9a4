-- `minor::dma_minor` meets its contract, by whether the count is 0 and how the transfer ends. Assumes nothing.
use native.Mathlib.Nat.{pos_of_ne-zero}
use native.Mathlib.Omega.{arith}
use lib.ListN.{length}
use Rattle.rules.specs.Carry.{lending}
use Rattle.act.specs.Worlds.{over}
use Rattle.minor.proofs.Laws.{pass_idle, pass_not, pass_to}
use Rattle.minor.proofs.dma_minor.Goals as goal

pub returns-then-count_of-eq0 : goal.returns-then-count_of-eq0
returns-then-count_of-eq0 c d =
    pass_idle _ _ d _ _ _ _ _ _ c.read_tcd-t.ensures.0 (omega (arith, c.read_tcd-t.ensures.1)) c.count_of.ensures c.if-count_of-eq0.true

pub dma_minor_done-requires : goal.dma_minor_done-requires
dma_minor_done-requires c = (c.requires, rw c.count_of.ensures at (pos_of_ne-zero c.if-count_of-eq0.false))

pub returns-in-Err : goal.returns-in-Err
returns-in-Err c d =
    let a = c.args in
    let size = c.read_tcd-t.ensures.1 in
    let moved = rw c.minor_bytes-n.ensures.0 at (c.transfer.ensures (over d a.c a.table.now a.majors.now)) in
    rw c.with_end.ensures
    (pass_not _ _ d _ _ _ _ _ a.ch c.read_tcd-t.ensures.0 (omega (arith, size, c.requires)) c.count_of.ensures c.if-count_of-eq0.false _ _ _ moved c.in-Err.is)

pub shape_of-window-in-Ok : goal.shape_of-window-in-Ok
shape_of-window-in-Ok c = c.transfer.auto.window

pub returns-in-Ok : goal.returns-in-Ok
returns-in-Ok c d =
    let a = c.args in
    let size = c.read_tcd-t.ensures.1 in
    let moved = rw c.minor_bytes-n.ensures.0 at (c.transfer.ensures (over d a.c a.table.now a.majors.now)) in
    let source = rw c.sources.ensures at c.moved_on-s1.ensures in
    let dest = rw c.dests.ensures at c.moved_on-d1.ensures in
    pass_to _ _ d _ _ _ _ _ a.ch c.read_tcd-t.ensures.0 (omega (arith, size, c.requires)) c.count_of.ensures c.if-count_of-eq0.false _ _ _ moved c.in-Ok.is source dest _ _ _ _ _
    (rw c.with_end-in-Ok.ensures at (c.dma_minor_done.ensures (lending (length a.staging.now)) d))
