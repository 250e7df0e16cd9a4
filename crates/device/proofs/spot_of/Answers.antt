-- `device::spot_of` meets its contract: each range of numbers has its law. Assumes nothing.
use mathlib.Core.Path.{sym, ap, ◌∙◌}
use mathlib.Core.Option.{some}
use native.Mathlib.Omega.{arith}
use Rattle.rules.proofs.Numbers.{at_scalar, at_gap, at_own, at_gap_2, at_busy, at_majors, at_pending, at_source, at_gap_3, at_taken, at_none}
use Rattle.device.proofs.Laws.{at_chip, at_old}
use Rattle.device.proofs.spot_of.Goals as goal

pub returns-in-0-to-9 : goal.returns-in-0-to-9
returns-in-0-to-9 c = record { name = sym (at_scalar _ _ (omega arith)); inside = omega arith }

pub returns-in-16-to-27 : goal.returns-in-16-to-27
returns-in-16-to-27 c = record { name = ap some c.own_spot.ensures.0 ∙ sym (at_own _ _ (omega arith) (omega arith)); inside = c.own_spot.ensures.1 }

pub returns-in-64-to-127 : goal.returns-in-64-to-127
returns-in-64-to-127 c = record { name = sym (at_busy _ _ (omega arith) (omega arith)); inside = omega arith }

pub returns-in-128-to-191 : goal.returns-in-128-to-191
returns-in-128-to-191 c = record { name = sym (at_majors _ _ (omega arith) (omega arith)); inside = omega arith }

pub returns-in-192-to-255 : goal.returns-in-192-to-255
returns-in-192-to-255 c = record { name = sym (at_pending _ _ (omega arith) (omega arith)); inside = omega arith }

pub returns-in-256-to-447 : goal.returns-in-256-to-447
returns-in-256-to-447 c = record { name = sym (at_source _ _ (omega arith) (omega arith)); inside = (omega arith, omega arith) }

pub returns-in-576-to-767 : goal.returns-in-576-to-767
returns-in-576-to-767 c = record { name = sym (at_taken _ _ (omega arith) (omega arith)); inside = omega arith }

pub returns-in-768-to-831 : goal.returns-in-768-to-831
returns-in-768-to-831 c = record { name = sym (at_chip (omega arith) (omega arith) c.if-chip.true); inside = omega arith }

pub returns-in_default : goal.returns-in_default
returns-in_default c = record { name = sym (at_gap _ _ (omega arith) (omega arith)); inside = tt }

pub returns-in_default-2 : goal.returns-in_default-2
returns-in_default-2 c = record { name = sym (at_gap_2 _ _ (omega arith) (omega arith)); inside = tt }

pub returns-in_default-3 : goal.returns-in_default-3
returns-in_default-3 c = record { name = sym (at_gap_3 _ _ (omega arith) (omega arith)); inside = tt }

pub returns-in_default-4 : goal.returns-in_default-4
returns-in_default-4 c = record { name = sym (at_old (omega arith) (omega arith) c.if-chip.false); inside = tt }

pub returns-in_default-5 : goal.returns-in_default-5
returns-in_default-5 c = record { name = sym (at_none _ _ (omega arith)); inside = tt }
