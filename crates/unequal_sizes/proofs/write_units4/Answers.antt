-- `unequal_sizes::write_units4` meets its contract. Assumes nothing.
use Rattle.std.proofs.Common.{arith}
use Rattle.act.proofs.Laws.{made_err}
use Rattle.act.proofs.Loops.{turn_on, turn-off}
use Rattle.act.specs.Worlds.{walked}
use Rattle.unequal_sizes.proofs.Writing.{writes-on, writes_end}
use Rattle.unequal_sizes.proofs.write_units4.Goals as goal

pub returns-in_err-journal_end : goal.returns-in_err-journal_end
unfolding walked
returns-in_err-journal_end c lent d =
    let a = c.args in
    let l = c.loop-k in
    let turn = writes-on a.count l.k 4 a.to a.staging.now a.pos c.loop-k-test.true c.unit_at-b.ensures c.get_width-v.ensures in
    rw (made_err c.from_residual.result c.from_residual.ensures)
    (turn-off a.base _ a.at _ _ _ _ turn _ _ l.journal_end l.invariant.2 _ _ c.store.ensures c.in_err-journal_end.was lent d)

pub loop-k-preserved : goal.loop-k-preserved
loop-k-preserved c =
    let a = c.args in
    let l = c.loop-k in
    let turn = writes-on a.count l.k 4 a.to a.staging.now a.pos c.loop-k-test.true c.unit_at-b.ensures c.get_width-v.ensures in
    (omega arith, omega arith, turn_on a.base _ a.at _ _ _ _ turn _ _ l.journal_end l.invariant.2 _ _ c.store.ensures c.in_ok-journal_end.was)

pub returns : goal.returns
returns c lent d =
    let a = c.args in
    let l = c.loop-k in
    writes_end a.base lent d a.count l.k 4 a.to a.staging.now a.pos l.journal_end l.window l.journal (omega arith) (l.invariant.2 lent d)
