-- `direct::kp_device_service` meets its contract: what `run_by` ensures, of the arrays in the device. Assumes nothing.
use Rattle.act.specs.Parts.{arrays_of}
use Rattle.direct.proofs.kp_device_service.Goals as goal

pub returns : goal.returns
returns c = (c.run_by-e.ensures.0 (arrays_of c.args.d.now) c.known.ensures, c.run_by-e.ensures.1)
