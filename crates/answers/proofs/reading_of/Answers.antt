-- `answers::reading_of` meets its contract. Assumes nothing.
use Rattle.answers.specs.Answers.{read_by}
use Rattle.answers.proofs.reading_of.Goals as goal

pub returns-in-Ok : goal.returns-in-Ok
returns-in-Ok c = (unfold read_by in rw c.in-Ok.is c.packed.ensures)

pub returns-in-Err : goal.returns-in-Err
returns-in-Err c = (unfold read_by in rw (c.in-Err.is, ← c.refusal_number.ensures) c.packed-in-Err.ensures)
