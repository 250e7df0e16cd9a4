-- `direct::kp_device_acknowledge` meets its contract: what `acknowledge_by` ensures, of the arrays in the device. Assumes nothing.
use Rattle.std.proofs.Common.{refl}
use Rattle.act.specs.Parts.{arrays_of}
use Rattle.direct.proofs.kp_device_acknowledge.Goals as goal

pub returns : goal.returns
returns c = (c.acknowledge_by.ensures (arrays_of c.args.d.now) c.known.ensures, λ n is. refl)
