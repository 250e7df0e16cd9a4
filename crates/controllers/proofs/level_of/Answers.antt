-- `controllers::level_of` meets its contract. What its callees ensure, put together. Assumes nothing.
use Rattle.controllers.specs.Levels.{level_in}
use Rattle.std.proofs.Common.{◌∙◌}
use Rattle.controllers.proofs.level_of.Goals as goal

pub returns : goal.returns
unfolding level_in
returns c = c.loudest.ensures ∙ rw c.deliverable.ensures
