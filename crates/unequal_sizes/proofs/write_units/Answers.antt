-- `unequal_sizes::write_units` meets its contract. A turn is the law of a size that is one unit. Assumes nothing.
use Rattle.std.proofs.Common.{◌+◌, ◌-◌, refl, arith, rules}
use Rattle.act.proofs.Laws.{made_err}
use Rattle.act.proofs.Loops.{turn_on, turn-off}
use Rattle.unequal_sizes.proofs.Unequal.{fewer}
use Rattle.unequal_sizes.proofs.Writing.{write_single_on, write_sizes_end}
use Rattle.unequal_sizes.specs.Stages.{wrote}
use Rattle.unequal_sizes.proofs.write_units.Goals as goal

pub returns-in_err-journal_end : goal.returns-in_err-journal_end
unfolding wrote
returns-in_err-journal_end g c lent d =
    let a = c.args in
    let l = c.loop in
    let p = c.requires.0 in
    let turn =
    write_single_on (a.sizes.count - l.counter) (a.sizes.count - (l.counter + 1)) a.sizes.off a.sizes.modulo g.row.WIDTH l.d a.staging.now l.pos
    (omega arith) refl p.positive p.most l.invariant.0 c.get_width-v.ensures in
    rw (made_err c.from_residual.result c.from_residual.ensures)
    (turn-off a.base _ a.at _ _ _ _ turn _ _ l.journal_end l.invariant.4 _ _ c.store.ensures c.in_err-journal_end.was lent d)

pub loop-preserved : goal.loop-preserved
loop-preserved g c =
    let a = c.args in
    let l = c.loop in
    let p = c.requires.0 in
    let turn =
    write_single_on (a.sizes.count - l.counter) (a.sizes.count - (l.counter + 1)) a.sizes.off a.sizes.modulo g.row.WIDTH l.d a.staging.now l.pos
    (omega arith) c.modulo_add-d.ensures p.positive p.most l.invariant.0 c.get_width-v.ensures in (
      search rules,
      omega arith,
      omega arith,
      omega (arith, fewer (a.sizes.count - l.counter) (a.sizes.count - (l.counter + 1)) g.row.WIDTH (omega arith)),
      turn_on a.base _ a.at _ _ _ _ turn _ _ l.journal_end l.invariant.4 _ _ c.store.ensures c.in_ok-journal_end.was,
    )

pub returns : goal.returns
returns g c lent dev =
    let a = c.args in
    let l = c.loop in
    write_sizes_end a.base lent dev (a.sizes.count - l.counter) _ _ g.row.WIDTH l.d a.staging.now l.pos l.journal_end l.window l.journal
    (omega arith) (l.invariant.4 lent dev)
