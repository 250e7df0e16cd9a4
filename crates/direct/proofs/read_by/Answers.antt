-- `direct::read_by` meets its contract. Assumes nothing.
use Rattle.answers.specs.Answers.{read_by}
use mathlib.Core.Path.{ap, ◌∙◌}
use Rattle.direct.proofs.read_by.Goals as goal

pub returns : goal.returns
returns c = c.reading_of.ensures ∙ ap read_by c.read.ensures
