-- `controllers::heard_from` meets its contract. What its callees ensure, put together. Assumes nothing.
use Rattle.controllers.specs.Levels.{loud_in}
use Rattle.std.proofs.Common.{◌∙◌}
use Rattle.controllers.proofs.heard_from.Goals as goal

pub returns : goal.returns
unfolding loud_in
returns c = (c.above.ensures.0 ∙ rw (c.loudest_above.ensures.0, c.deliverable.ensures), c.above.ensures.1)
