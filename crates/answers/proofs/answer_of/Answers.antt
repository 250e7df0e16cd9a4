-- `answers::answer_of` meets its contract. Assumes nothing.
use mathlib.Core.Path.{refl}
use Rattle.answers.proofs.answer_of.Goals as goal

pub returns : goal.returns
returns c = rw (c.packed.ensures, c.verdict_number.ensures) refl
