-- `controllers::above` meets its contract. One line for each case. Assumes nothing.
use Rattle.controllers.proofs.AboveLaws.{above-nothing, above_quieter, above_louder}
use Rattle.std.proofs.Common.{rules}
use Rattle.controllers.proofs.above.Goals as goal

pub returns-then-here-eq0 : goal.returns-then-here-eq0
returns-then-here-eq0 c = (above-nothing _ _ _ c.if-here-eq0.true, search rules)

pub returns-then-here-below : goal.returns-then-here-below
returns-then-here-below c = (above_quieter _ _ _ c.if-here-eq0.false c.if-here-below.true, search rules)

pub returns : goal.returns
returns c = (above_louder _ _ _ c.if-here-eq0.false c.if-here-below.false, search rules)
