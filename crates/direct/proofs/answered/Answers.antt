-- `direct::answered` meets its contract. Assumes nothing.
use mathlib.Core.Path.{refl}
use Rattle.direct.proofs.answered.Goals as goal

pub returns : goal.returns
returns c = (c.answer_of.ensures, refl)
