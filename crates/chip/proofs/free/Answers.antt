-- `chip::free` meets its contract. Assumes nothing.
use Rattle.chip.proofs.Seeing.{not_past}
use Rattle.chip.proofs.free.Goals as goal

pub returns : goal.returns
returns c = not_past c.args.time _
