-- `registers::read_controller` meets its contract. Assumes nothing.
use Rattle.rules.specs.Registers.{read_in}
use Rattle.rules.proofs.ViewLaws.{controller_viewed}
use Rattle.registers.proofs.read_controller.Goals as goal

pub returns : goal.returns
unfolding read_in
returns c = let a = c.args in rw (controller_viewed a.d.controllers a.c, ← c.intc_read.ensures) c.reading.ensures
