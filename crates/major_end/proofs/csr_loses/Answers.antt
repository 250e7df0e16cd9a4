-- `major_end::csr_loses` meets its contract: what is left is no more than there was. Assumes nothing.
use Rattle.std.proofs.Common.{arith}
use Rattle.rules.proofs.Masks.{lose_le}
use Rattle.major_end.proofs.csr_loses.Goals as goal

pub overflow_cast-result : goal.overflow_cast-result
overflow_cast-result c = omega (arith, lose_le c.args.csr c.args.bit, c.lose_bit.ensures)
