-- `masks::named` meets its contract. By cases on bit 6. Assumes nothing.
use Rattle.std.proofs.Common.{◌∙◌, sym}
use lib.Bits.{or_zero_l}
use Rattle.rules.specs.Registers.{named}
use Rattle.rules.specs.Words.{gain}
use Rattle.masks.proofs.named.Goals as goal

pub returns-then-has_bit : goal.returns-then-has_bit
unfolding named
returns-then-has_bit c = rw (sym c.has_bit.ensures ∙ c.if-has_bit.true)

pub returns-else-has_bit : goal.returns-else-has_bit
unfolding named gain
returns-else-has_bit c = c.gain_bit.ensures ∙ rw (sym c.has_bit.ensures ∙ c.if-has_bit.false) (or_zero_l _)
