-- `major_end::ended` meets its contract, one bit after another. Assumes nothing.
use Rattle.major_end.proofs.ended.Goals as goal

pub returns : goal.returns
returns c = rw (c.csr_gains.ensures, c.csr_loses-2.ensures, c.csr_loses.ensures)
