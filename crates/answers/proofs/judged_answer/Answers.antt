-- `answers::judged_answer` meets its contract. Assumes nothing.
use Rattle.answers.specs.Answers.{judged_by}
use Rattle.answers.proofs.judged_answer.Goals as goal

pub returns-in-None : goal.returns-in-None
unfolding judged_by
returns-in-None c = rw c.in-None.is c.packed.ensures

pub returns-in-Some : goal.returns-in-Some
unfolding judged_by
returns-in-Some c = rw c.in-Some.is c.packed-in-Some.ensures
