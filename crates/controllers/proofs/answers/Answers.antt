-- `controllers::answers` meets its contract. One line for each case. Assumes nothing.
use Rattle.controllers.proofs.AboveLaws.{answers_none, answers_more, answers_seven}
use Rattle.controllers.proofs.answers.Goals as goal

pub returns-then-l-eq0 : goal.returns-then-l-eq0
returns-then-l-eq0 c = answers_none _ _ c.if-l-eq0.true

pub returns-then-ipl-l : goal.returns-then-ipl-l
returns-then-ipl-l c = answers_more _ _ c.if-l-eq0.false c.if-ipl-l.true

pub returns-else-ipl-l : goal.returns-else-ipl-l
returns-else-ipl-l c = answers_seven _ _ c.if-l-eq0.false c.if-ipl-l.false
