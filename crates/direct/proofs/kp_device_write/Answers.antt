-- `direct::kp_device_write` meets its contract: what `write_by` ensures, of the arrays in the device. Assumes nothing.
use Rattle.act.specs.Parts.{arrays_of}
use Rattle.direct.proofs.kp_device_write.Goals as goal

pub returns : goal.returns
returns c = (c.write_by-e.ensures.0 (arrays_of c.args.d.now) c.known.ensures, c.write_by-e.ensures.1)
