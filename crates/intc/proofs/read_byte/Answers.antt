-- `intc::read_byte` meets its contract. One case law for each answer. Assumes nothing.
use Rattle.masks.proofs.Ranges.{within_true}
use Rattle.intc.proofs.ReadLaws.{read_level, read_command, read_no-byte}
use native.Mathlib.Omega.{arith}
use mathlib.Core.Path.{◌∙◌, sym}
use Rattle.intc.proofs.read_byte.Goals as goal

pub overflow_sub-off : goal.overflow_sub-off
overflow_sub-off c = omega (arith, within_true _ _ _ (sym c.within.ensures ∙ c.if-within.true))

pub bounds-levels-off : goal.bounds-levels-off
bounds-levels-off c = omega (arith, within_true _ _ _ (sym c.within.ensures ∙ c.if-within.true))

pub returns-then-within : goal.returns-then-within
returns-then-within c = rw c.from.ensures (read_level _ _ (sym c.within.ensures ∙ c.if-within.true))

pub returns-then-within-2 : goal.returns-then-within-2
returns-then-within-2 c = read_command _ _ (sym c.within.ensures ∙ c.if-within.false) (sym c.within-2.ensures ∙ c.if-within-2.true)

pub returns : goal.returns
returns c = read_no-byte _ _ (sym c.within.ensures ∙ c.if-within.false) (sym c.within-2.ensures ∙ c.if-within-2.false)
