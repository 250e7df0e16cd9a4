-- `channel::offered` meets its contract. Assumes nothing.
use Rattle.channel.proofs.Reading.{offered-off, offered-standing, offered-pending}
use Rattle.channel.proofs.offered.Goals as goal

pub returns-then-not-has_bit : goal.returns-then-not-has_bit
returns-then-not-has_bit c = offered-off _ _ _ _ c.has_bit.ensures c.if-not-has_bit.true

pub returns-then-has_bit : goal.returns-then-has_bit
returns-then-has_bit c = offered-standing _ _ _ _ c.has_bit.ensures c.if-not-has_bit.false c.has_bit-2.ensures c.if-has_bit.true

pub returns : goal.returns
returns c = offered-pending _ _ _ _ c.has_bit.ensures c.if-not-has_bit.false c.has_bit-2.ensures c.if-has_bit.false
