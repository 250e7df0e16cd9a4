-- `controllers::given` meets its contract. What `owned_from` ensures. Assumes nothing.
use Rattle.controllers.proofs.given.Goals as goal

pub returns : goal.returns
returns c = rw c.owned_from.ensures
