-- `engine::dma_service` meets its contract. Assumes nothing.
use mathlib.Core.Path.{refl}
use Rattle.engine.proofs.Starts.{begins_again}
use borrow.Author.Rules.{rules}
use Rattle.engine.proofs.dma_service.Goals as goal

pub returns : goal.returns
returns c =
    let a = c.args in
    begins_again a.time a.n a.used _ _ _ _ _ c.release-back.ensures c.waiting-asking.ensures (search rules) (search rules) (search rules) _ refl
