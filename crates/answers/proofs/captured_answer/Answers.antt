-- `answers::captured_answer` meets its contract. Assumes nothing.
use Rattle.answers.specs.Answers.{captured_by}
use Rattle.answers.proofs.captured_answer.Goals as goal

pub returns-in-Ok : goal.returns-in-Ok
unfolding captured_by
returns-in-Ok c = rw c.in-Ok.is c.judged_answer.ensures

pub returns-in-Err : goal.returns-in-Err
unfolding captured_by
returns-in-Err c = rw c.in-Err.is c.packed.ensures
