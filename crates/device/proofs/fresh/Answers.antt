-- `device::fresh` meets its contract: the three controllers are the fresh one, priorities those of the mode. Assumes nothing.
use mathlib.Core.Path.{refl}
use Rattle.rules.specs.Calls.{fresh}
use Rattle.device.proofs.fresh.Goals as goal

pub returns : goal.returns
unfolding fresh
returns c = rw (c.fresh_controller-c.ensures, c.fresh_priorities.ensures) refl
