-- `entries::lay_down` meets its contract. Assumes nothing.
use Rattle.entries.proofs.Laws.{laid_down, left_so}
use Rattle.entries.proofs.lay_down.Goals as goal

pub returns-in_default : goal.returns-in_default
returns-in_default c = left_so _ _ c.in_default.is

pub returns : goal.returns
returns c = laid_down _ _ c.in-Ok.is c.put_device.ensures
