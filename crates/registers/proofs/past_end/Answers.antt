-- `registers::past_end` meets its contract. Assumes nothing.
use Rattle.registers.specs.Asked.{past_end}
use Rattle.dma_read.proofs.Laws.{small}
use Rattle.rules.specs.Registers.{in_table}
use native.Mathlib.Omega.{arith}
use mathlib.Core.Path.{sym, ◌∙◌}
use Rattle.registers.proofs.past_end.Goals as goal

pub returns-then-not-within : goal.returns-then-not-within
unfolding past_end in_table
returns-then-not-within c = rw (sym c.within.ensures ∙ c.if-not-within.true)

pub overflow_add-result : goal.overflow_add-result
overflow_add-result c = record { fits = omega (arith, small _ c.requires.1) }

pub returns : goal.returns
unfolding past_end in_table
returns c = rw (sym c.within.ensures ∙ c.if-not-within.false)
