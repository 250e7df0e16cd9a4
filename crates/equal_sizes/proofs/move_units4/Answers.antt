-- `equal_sizes::move_units4` meets its contract. The loop's invariant: the units that are left, from number k on, are
-- the whole from the start. Assumes nothing.
use Rattle.std.proofs.Common.{refl, arith}
use native.Mathlib.Nat.{sub-zero}
use Rattle.rules.specs.Minor.{move_unit}
use Rattle.act.proofs.Laws.{made_err}
use Rattle.act.proofs.Loops.{turn_on, turn-off}
use Rattle.act.specs.Worlds.{walked}
use Rattle.equal_sizes.proofs.Laws.{units-on, units_end}
use Rattle.equal_sizes.proofs.move_units4.Goals as goal

pub loop-k-init : goal.loop-k-init
loop-k-init c = (refl, refl, λ lent d. rw sub-zero)

pub returns-in_err-end : goal.returns-in_err-end
unfolding walked
returns-in_err-end c lent d =
    let a = c.args in
    let turn = units-on a.count c.loop-k.k 4 a.from a.to c.loop-k-test.true c.unit_at-a.ensures c.unit_at-b.ensures in
    rw (made_err c.from_residual.result c.from_residual.ensures)
    (turn-off a.base _ a.at _ _ (move_unit 4 c.unit_at-a.result c.unit_at-b.result) _ turn _ _ c.loop-k.end c.loop-k.invariant.2 _ _ c.move_unit.ensures c.in_err-end.was lent d)

pub loop-k-preserved : goal.loop-k-preserved
loop-k-preserved c =
    let a = c.args in
    let turn = units-on a.count c.loop-k.k 4 a.from a.to c.loop-k-test.true c.unit_at-a.ensures c.unit_at-b.ensures in (
      omega arith,
      omega arith,
      turn_on a.base _ a.at _ _ (move_unit 4 c.unit_at-a.result c.unit_at-b.result) _ turn _ _ c.loop-k.end c.loop-k.invariant.2 _ _ c.move_unit.ensures c.in_ok-end.was,
    )

pub returns : goal.returns
returns c lent d =
    let a = c.args in
    units_end a.base lent d a.count c.loop-k.k 4 a.from a.to c.loop-k.end c.loop-k.window c.loop-k.journal (omega arith) (c.loop-k.invariant.2 lent d)
