-- `engine::take_turns` meets its contract. Assumes nothing.
use Rattle.engine.proofs.Starts.{turns_idle, turns-chip, turns_old}
use Rattle.engine.proofs.take_turns.Goals as goal

pub returns-then-idle : goal.returns-then-idle
returns-then-idle c =
    let a = c.args in
    turns_idle a.again a.chip a.priorities.now a.clock.now a.clock.pace a.base _ a.t _ _ _ _ _ _ c.idle.ensures c.if-idle.true

pub returns-then-chip : goal.returns-then-chip
returns-then-chip c =
    let a = c.args in
    turns-chip a.again a.chip a.priorities.now a.clock.now a.clock.pace a.base _ a.t _ _ _ _ _ _ c.idle.ensures c.if-idle.false _ _ _ _ _ _ _ c.if-chip.true c.run_chip.ensures

pub returns : goal.returns
returns c =
    let a = c.args in
    turns_old a.again a.chip a.priorities.now a.clock.now a.clock.pace a.base _ a.t _ _ _ _ _ _ c.idle.ensures c.if-idle.false _ _ _ _ _ _ _ c.if-chip.false c.run_dma_inner.ensures
