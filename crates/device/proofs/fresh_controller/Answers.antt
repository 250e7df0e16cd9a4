-- `device::fresh_controller` meets its contract: by computation. Assumes nothing.
use mathlib.Core.Path.{refl}
use Rattle.rules.specs.Calls.{fresh_controller}
use Rattle.device.proofs.fresh_controller.Goals as goal

pub returns : goal.returns
unfolding fresh_controller
returns c = refl
