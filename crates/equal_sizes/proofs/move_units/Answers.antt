-- `equal_sizes::move_units` meets its contract. The loop's invariant: what is left to move from here is the whole
-- from the start. A turn is the law of a size that is one unit. Assumes nothing.
use Rattle.std.proofs.Common.{◌+◌, ◌-◌, refl, arith, rules}
use native.Mathlib.Nat.{sub-zero}
use Rattle.rules.specs.Minor.{move_unit}
use Rattle.act.proofs.Laws.{made_err}
use Rattle.act.proofs.Loops.{turn_on, turn-off}
use Rattle.equal_sizes.proofs.Laws.{single_on, sizes_end}
use Rattle.equal_sizes.specs.Moves.{moved}
use Rattle.equal_sizes.proofs.move_units.Goals as goal

pub loop-init : goal.loop-init
loop-init g c = (search rules, search rules, refl, refl, λ lent d. rw sub-zero)

pub returns-in_err-end : goal.returns-in_err-end
unfolding moved
returns-in_err-end g c lent d =
    let a = c.args in
    let l = c.loop in
    let p = c.requires in
    let turn = single_on (a.count - l.counter) (a.count - (l.counter + 1)) a.step.soff a.step.smod a.step.doff a.step.dmod g.row.WIDTH l.s l.d (omega arith) refl refl p.positive p.most l.invariant.0 l.invariant.1 in
    rw (made_err c.from_residual.result c.from_residual.ensures)
    (turn-off a.base _ a.at _ _ (move_unit g.row.WIDTH l.s l.d) _ turn _ _ l.end l.invariant.4 _ _ c.move_unit.ensures c.in_err-end.was lent d)

pub loop-preserved : goal.loop-preserved
loop-preserved g c =
    let a = c.args in
    let l = c.loop in
    let p = c.requires in
    let turn = single_on (a.count - l.counter) (a.count - (l.counter + 1)) a.step.soff a.step.smod a.step.doff a.step.dmod g.row.WIDTH l.s l.d (omega arith) c.modulo_add-s.ensures c.modulo_add-d.ensures p.positive p.most l.invariant.0 l.invariant.1 in (
      search rules,
      search rules,
      omega arith,
      omega arith,
      turn_on a.base _ a.at _ _ (move_unit g.row.WIDTH l.s l.d) _ turn _ _ l.end l.invariant.4 _ _ c.move_unit.ensures c.in_ok-end.was,
    )

pub returns : goal.returns
returns g c lent dev =
    let a = c.args in
    let l = c.loop in
    sizes_end a.base lent dev (a.count - l.counter) _ _ _ _ g.row.WIDTH l.s l.d l.end l.window l.journal (omega arith) (l.invariant.4 lent dev)
