-- `major_end::started` meets its contract, one bit after another. Assumes nothing.
use Rattle.rules.specs.Minor.{started}
use Rattle.major_end.proofs.started.Goals as goal

pub returns : goal.returns
unfolding started
returns c = rw (c.csr_loses-2.ensures, c.csr_gains.ensures, c.csr_loses.ensures)
