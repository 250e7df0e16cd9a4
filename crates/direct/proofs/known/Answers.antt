-- `direct::known` meets its contract: every value of the declared type stands for such a device. Assumes nothing.
use Rattle.rules.proofs.Each.{typed_proper}
use Rattle.direct.proofs.known.Goals as goal

pub returns : goal.returns
returns c = typed_proper c.args.d c.well_formed.0
