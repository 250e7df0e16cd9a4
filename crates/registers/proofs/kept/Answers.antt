-- `registers::kept` meets its contract. Assumes nothing.
use Rattle.rules.specs.Fields.{bits_of}
use mathlib.Core.Path.{sym}
use native.Mathlib.Nat.{mod-one}
use Rattle.registers.proofs.kept.Goals as goal

pub returns-then-not-chip : goal.returns-then-not-chip
returns-then-not-chip c = rw c.if-not-chip.true (sym (mod-one _))

pub returns : goal.returns
unfolding bits_of
returns c = rw c.if-not-chip.false
