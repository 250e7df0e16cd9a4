-- `direct::kp_device_pending` meets its contract: what `pending_by` ensures, of the arrays in the device. Assumes nothing.
use Rattle.std.proofs.Common.{refl}
use Rattle.act.specs.Parts.{arrays_of}
use Rattle.direct.proofs.kp_device_pending.Goals as goal

pub returns : goal.returns
returns c = (c.pending_by-e.ensures (arrays_of c.args.d.now) c.known.ensures, λ n is. refl)
