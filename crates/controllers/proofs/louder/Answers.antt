-- `controllers::louder` meets its contract. One line for each case. Assumes nothing.
use Rattle.controllers.proofs.AboveLaws.{louder_here, louder_there, louder_silent}
use Rattle.controllers.proofs.louder.Goals as goal

pub returns-then-best-l : goal.returns-then-best-l
returns-then-best-l c = louder_here _ _ _ _ c.answers.ensures c.if-answers.true c.if-best-l.true

pub returns-else-best-l : goal.returns-else-best-l
returns-else-best-l c = louder_there _ _ _ _ c.answers.ensures c.if-answers.true c.if-best-l.false

pub returns-else-answers : goal.returns-else-answers
returns-else-answers c = louder_silent _ _ _ _ c.answers.ensures c.if-answers.false
