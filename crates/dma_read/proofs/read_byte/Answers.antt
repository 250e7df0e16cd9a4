-- `dma_read::read_byte` meets its contract. One case law for each answer. Assumes nothing.
use Rattle.dma_read.proofs.Laws.{read_command, read_old_byte, read_no-byte, read_priority, six_read}
use Rattle.masks.proofs.Ranges.{within_true}
use native.Mathlib.Omega.{arith}
use borrow.Author.Tests.{not-true, not-false}
use mathlib.Core.Path.{sym, ◌∙◌}
use Prim.Native.Nat.{◌-◌}
use Rattle.dma_read.proofs.read_byte.Goals as goal

pub returns-then-within : goal.returns-then-within
returns-then-within c = read_command _ _ c.requires (sym c.within.ensures ∙ c.if-within.true)

pub returns-then-not-d : goal.returns-then-not-d
returns-then-not-d c = read_old_byte _ _ c.requires (sym c.within.ensures ∙ c.if-within.false) (not-true _ c.if-not-d.true)

pub overflow_sub-off : goal.overflow_sub-off
overflow_sub-off c = omega (arith, within_true _ _ _ (sym c.within-2.ensures ∙ c.if-within-2.true))

pub bounds-priorities-off : goal.bounds-priorities-off
bounds-priorities-off c = omega (arith, within_true _ _ _ (sym c.within-2.ensures ∙ c.if-within-2.true))

pub returns-then-within-2 : goal.returns-then-within-2
returns-then-within-2 c =
    let a = c.args in
    let chip = not-false _ c.if-not-d.false in
    read_priority _ _ c.requires (sym c.within.ensures ∙ c.if-within.false) chip (sym c.within-2.ensures ∙ c.if-within-2.true) (six_read a.d.priorities (a.off - 0x100) chip c.low_six.ensures)

pub returns : goal.returns
returns c = read_no-byte _ _ c.requires (sym c.within.ensures ∙ c.if-within.false) (sym c.within-2.ensures ∙ c.if-within-2.false)
