-- `answers::heard_answer` meets its contract. Assumes nothing.
use mathlib.Core.Path.{refl}
use Rattle.answers.proofs.heard_answer.Goals as goal

pub returns : goal.returns
returns c = rw (c.packed.ensures, c.vector_of.ensures, c.level_of.ensures, c.verdict_number.ensures) refl
