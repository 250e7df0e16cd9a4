-- `engine::beginning` meets its contract. Assumes nothing.
use mathlib.Core.Path.{refl}
use Rattle.engine.proofs.Starts.{begins_run, begins_service}
use Rattle.engine.proofs.beginning.Goals as goal

pub returns-then-not-again : goal.returns-then-not-again
returns-then-not-again c =
    let a = c.args in
    begins_run a.again c.if-not-again.true a.time a.n a.used _ _ refl

pub returns : goal.returns
returns c =
    let a = c.args in
    begins_service a.again c.if-not-again.false a.time a.n a.used _ _ _ c.dma_service.result c.dma_service.ensures
