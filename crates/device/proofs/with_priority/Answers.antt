-- `device::with_priority` meets its contract: no bit of the value is cut. Assumes nothing.
use Rattle.device.proofs.Laws.{priority_put}
use Rattle.device.proofs.with_priority.Goals as goal

pub returns : goal.returns
returns c = priority_put c.args.d _ _ c.requires.1
