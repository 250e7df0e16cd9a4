-- `major_end::csr_gains` meets its contract: a bit below 16 keeps 16 bits. Assumes nothing.
use Rattle.std.proofs.Common.{rules}
use Rattle.rules.proofs.Masks.{gain_fits}
use Rattle.major_end.proofs.csr_gains.Goals as goal

pub overflow_cast-result : goal.overflow_cast-result
overflow_cast-result c = record { fits = rw c.gain_bit.ensures (gain_fits 16 _ _ (search rules) (search rules)) }
