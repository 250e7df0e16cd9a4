-- `device::field_bits` meets its contract: the bits of its spot's field, all of which the mode has. Assumes nothing.
use Rattle.device.proofs.Laws.{found_bits, bits_number}
use Rattle.device.proofs.field_bits.Goals as goal

pub returns-clause-field : goal.returns-clause-field
returns-clause-field c = found_bits c.spot_of.ensures c.in_ok-spot.was c.spot_bits.ensures

pub returns-clause-number : goal.returns-clause-number
returns-clause-number c = bits_number _ _ (found_bits c.spot_of.ensures c.in_ok-spot.was c.spot_bits.ensures)
