-- `controllers::driven_by` meets its contract. What `driven` ensures. Assumes nothing.
use Rattle.controllers.proofs.driven_by.Goals as goal

pub returns : goal.returns
returns c = rw c.driven.ensures
