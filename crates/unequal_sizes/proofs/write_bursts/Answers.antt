-- `unequal_sizes::write_bursts` meets its contract. A turn is the law of a size in units of 4. Assumes nothing.
use Rattle.std.proofs.Common.{◌+◌, ◌-◌, refl, arith}
use Rattle.act.proofs.Laws.{made_err}
use Rattle.act.proofs.Loops.{turn_on, turn-off}
use Rattle.unequal_sizes.proofs.Unequal.{fewer}
use Rattle.unequal_sizes.proofs.Writing.{write_bursts_on, write_sizes_end}
use Rattle.unequal_sizes.specs.Stages.{wrote}
use Rattle.unequal_sizes.proofs.write_bursts.Goals as goal

pub returns-in_err-journal_end : goal.returns-in_err-journal_end
unfolding wrote
returns-in_err-journal_end c lent d =
    let a = c.args in
    let l = c.loop in
    let turn =
    write_bursts_on (a.sizes.count - l.counter) (a.sizes.count - (l.counter + 1)) a.sizes.off a.sizes.modulo a.size l.d a.staging.now l.pos
    (omega arith) refl c.requires.0 in
    rw (made_err c.from_residual.result c.from_residual.ensures)
    (turn-off a.base _ a.at _ _ _ _ turn _ _ l.journal_end l.invariant.3 _ _ c.write_units4.ensures c.in_err-journal_end.was lent d)

pub loop-preserved : goal.loop-preserved
loop-preserved c =
    let a = c.args in
    let l = c.loop in
    let turn =
    write_bursts_on (a.sizes.count - l.counter) (a.sizes.count - (l.counter + 1)) a.sizes.off a.sizes.modulo a.size l.d a.staging.now l.pos
    (omega arith) c.modulo_add-d.ensures c.requires.0 in (
      omega arith,
      omega arith,
      omega (arith, fewer (a.sizes.count - l.counter) (a.sizes.count - (l.counter + 1)) a.size (omega arith)),
      turn_on a.base _ a.at _ _ _ _ turn _ _ l.journal_end l.invariant.3 _ _ c.write_units4.ensures c.in_ok-journal_end.was,
    )

pub returns : goal.returns
returns c lent dev =
    let a = c.args in
    let l = c.loop in
    write_sizes_end a.base lent dev (a.sizes.count - l.counter) _ _ a.size l.d a.staging.now l.pos l.journal_end l.window l.journal
    (omega arith) (l.invariant.3 lent dev)
