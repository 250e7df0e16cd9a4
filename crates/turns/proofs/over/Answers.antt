-- `turns::over` meets its contract. Assumes nothing.
use Rattle.std.proofs.Common.{eq-eqb}
use Rattle.turns.proofs.Freeing.{over-free, over_by}
use Rattle.turns.proofs.over.Goals as goal

pub returns-else-until-ne0 : goal.returns-else-until-ne0
returns-else-until-ne0 c = rw (eq-eqb _ _ c.if-until-ne0.false) (over-free _ _ c.if-until-ne0.false)

pub returns-then-until-ne0 : goal.returns-then-until-ne0
returns-then-until-ne0 c = over_by _ _ c.if-until-ne0.true
