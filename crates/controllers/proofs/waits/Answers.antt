-- `controllers::waits` meets its contract. By cases on the count. Assumes nothing.
use Rattle.std.proofs.Common.{◌∙◌, eq-eqb, ne_eqb}
use Rattle.controllers.proofs.waits.Goals as goal

pub returns-then-count-eq0 : goal.returns-then-count-eq0
returns-then-count-eq0 c = rw (eq-eqb _ _ c.if-count-eq0.true)

pub returns : goal.returns
returns c = c.gain_bit.ensures ∙ rw (ne_eqb _ _ c.if-count-eq0.false)
