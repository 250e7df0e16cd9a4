-- `device::fresh_priorities` meets its contract, in each mode. Assumes nothing.
use Rattle.device.proofs.Laws.{own_numbers}
use Rattle.device.proofs.fresh_priorities.Goals as goal

pub returns-then-chip : goal.returns-then-chip
returns-then-chip c = own_numbers _ c.if-chip.true c.own_numbers.ensures
