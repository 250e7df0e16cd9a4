-- `dma_commands::flag_each` meets its contract: a channel of the mask is flagged, any other is passed over; once refused, nothing more is done.
-- Assumes nothing.
use Rattle.std.specs.Prelude.{Ok, Err}
use Prim.Native.Nat.{◌+◌, ◌-◌}
use native.Mathlib.Omega.{arith}
use mathlib.Core.Path.{refl, ◌∙◌}
use Rattle.rules.specs.Registers.{flag_each}
use Rattle.act.specs.Worlds.{came_to}
use Rattle.act.proofs.Laws.{passed, taken, stays, made_err, stays_refused}
use Rattle.dma_commands.proofs.Laws.{flag_turn, flag_end}
use Rattle.dma_commands.proofs.flag_each.Goals as goal
use Rattle.dma_commands.proofs.flag_each.Goals.{then-has_bit+in_ok-c-2, else-has_bit}

pub returns-in_err-c : goal.returns-in_err-c
returns-in_err-c g c made makes base lent d w m = stays_refused base lent (flag_each made c.args.m 64 0) c.from_residual.result d w c.args.journal.now c.args.table.now m c.from_residual.ensures c.in_err-c.was

pub returns-in_err-c-2 : goal.returns-in_err-c-2
returns-in_err-c-2 g c made makes base lent d w m =
    rw (c.in_ok-c.was, made_err c.from_residual-in_err-c-2.result c.from_residual-in_err-c-2.ensures)
    (stays base lent (flag_each made c.args.m (64 - (c.loop-ch.ch + 1)) (c.loop-ch.ch + 1)) d w _ _ m refl
    ∙ flag_turn base lent made _ c.loop-ch.ch _ (c.loop-ch.invariant made makes base lent d w m) c.loop-ch-test.true c.has_bit.ensures
    (taken base lent _ _ _ c.if-has_bit.true (rw (← c.in_err-c-2.was) (c.flag_one.ensures made makes base lent d w m))))

pub loop-ch-preserved : goal.loop-ch-preserved
loop-ch-preserved g c made makes base lent d v x =
    flag_turn base lent made _ c.loop-ch.ch _ (c.loop-ch.invariant made makes base lent d v x) c.loop-ch-test.true c.has_bit.ensures
    (elim c.if-has_bit.branch [
      | then-has_bit+in_ok-c-2 w ↦ taken base lent _ _ _ w.if-has_bit.true (rw (w.c-is, w.journal-is, w.table-is, ← w.in_ok-c-2.was) (w.flag_one.ensures made makes base lent d v x))
      | else-has_bit w ↦ rw (w.c-is, w.journal-is, w.table-is) (passed base lent _ _ _ w.if-has_bit.false)
    ])

pub returns : goal.returns
returns g c made makes base lent d w l = rw c.in_ok-c.was (flag_end base lent made _ c.loop-ch.ch _ (c.loop-ch.invariant made makes base lent d w l) (omega arith))
