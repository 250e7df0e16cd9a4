-- `device::from_list` meets its contract: number by number. Assumes nothing.
use mathlib.Core.Path.{refl}
use Rattle.device.specs.Spots.{cut, low}
use Rattle.device.proofs.from_list.Goals as goal

pub returns : goal.returns
unfolding cut low
returns c = refl
