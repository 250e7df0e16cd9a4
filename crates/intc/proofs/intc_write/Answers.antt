-- `intc::intc_write` meets its contract: what 'controller_written' ensures, of the device around the controller. Assumes nothing.
use Rattle.intc.specs.Writes.{write_to}
use Rattle.intc.proofs.WriteLaws.{written_held, unwritten_held}
use native.Mathlib.Omega.{arith}
use Rattle.intc.proofs.intc_write.Goals as goal

pub returns-in_err-written : goal.returns-in_err-written
returns-in_err-written c x p =
    let a = c.args in
    rw c.from_residual.ensures (unwritten_held (write_to a.off a.size a.v) a.c a.k x (omega (arith, p.sound.three)) (rw c.in_err-written.was at c.controller_written.ensures))

pub returns : goal.returns
returns c x p =
    let a = c.args in
    written_held (write_to a.off a.size a.v) a.c a.k x _ _ (omega (arith, p.sound.three)) (rw c.in_ok-written.was at c.controller_written.ensures)
