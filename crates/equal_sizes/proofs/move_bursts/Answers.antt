-- `equal_sizes::move_bursts` meets its contract. The loop's invariant is that of `move_units`; a turn is the law of a size in units of 4. Assumes nothing.
use Rattle.std.proofs.Common.{◌+◌, ◌-◌, refl, arith}
use native.Mathlib.Nat.{sub-zero}
use Rattle.act.proofs.Laws.{made_err}
use Rattle.act.proofs.Loops.{turn_on, turn-off}
use Rattle.equal_sizes.proofs.Laws.{bursts_on, sizes_end}
use Rattle.equal_sizes.specs.Moves.{moved}
use Rattle.equal_sizes.proofs.move_bursts.Goals as goal

pub loop-init : goal.loop-init
loop-init c = (refl, refl, λ lent d. rw sub-zero)

pub returns-in_err-end : goal.returns-in_err-end
unfolding moved
returns-in_err-end c lent d =
    let a = c.args in
    let l = c.loop in
    let turn = bursts_on (a.count - l.counter) (a.count - (l.counter + 1)) a.step.soff a.step.smod a.step.doff a.step.dmod a.size l.s l.d (omega arith) refl refl c.requires.0 in
    rw (made_err c.from_residual.result c.from_residual.ensures)
    (turn-off a.base _ a.at _ _ _ _ turn _ _ l.end l.invariant.2 _ _ c.move_units4.ensures c.in_err-end.was lent d)

pub loop-preserved : goal.loop-preserved
loop-preserved c =
    let a = c.args in
    let l = c.loop in
    let turn = bursts_on (a.count - l.counter) (a.count - (l.counter + 1)) a.step.soff a.step.smod a.step.doff a.step.dmod a.size l.s l.d (omega arith) c.modulo_add-s.ensures c.modulo_add-d.ensures c.requires.0 in (
      omega arith,
      omega arith,
      turn_on a.base _ a.at _ _ _ _ turn _ _ l.end l.invariant.2 _ _ c.move_units4.ensures c.in_ok-end.was,
    )

pub returns : goal.returns
returns c lent dev =
    let a = c.args in
    let l = c.loop in
    sizes_end a.base lent dev (a.count - l.counter) _ _ _ _ a.size l.s l.d l.end l.window l.journal (omega arith) (l.invariant.2 lent dev)
