-- `minor::steps_of` meets its contract. Assumes nothing.
use Rattle.std.proofs.Common.{refl}
use Rattle.rules.specs.Minor.{smod, dmod}
use Rattle.minor.proofs.steps_of.Goals as goal

pub returns : goal.returns
unfolding smod dmod
returns c = record { soff = c.signed16.ensures; smod = refl; doff = c.signed16-2.ensures; dmod = refl }
