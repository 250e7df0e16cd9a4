-- `scan::field_head` meets its contract: a wrong width, no such field, and neither. Assumes nothing.
use Rattle.scan.proofs.HeadLaws.{field_width, field_none, field_wide}
use Rattle.scan.proofs.field_head.Goals as goal

pub returns-then-width-ne8 : goal.returns-then-width-ne8
returns-then-width-ne8 c base = field_width _ _ _ _ c.if-width-ne8.true

pub returns-in_err-bits : goal.returns-in_err-bits
returns-in_err-bits c base = rw c.from_residual.ensures (field_none _ _ _ _ c.if-width-ne8.false c.field_bits.ensures.field c.in_err-bits.was)

pub returns : goal.returns
returns c base = field_wide _ _ _ _ c.if-width-ne8.false c.field_bits.ensures.field c.in_ok-bits.was
