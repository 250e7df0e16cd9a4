-- `chip::passed_over` meets its contract. Assumes nothing.
use Rattle.chip.proofs.passed_over.Goals as goal

pub returns-else-went : goal.returns-else-went
returns-else-went c = rw c.if-went.false c.gain_bit.ensures
