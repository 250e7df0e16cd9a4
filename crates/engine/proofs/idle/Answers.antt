-- `engine::idle` meets its contract. Assumes nothing.
use Rattle.engine.proofs.Starts.{asked_again}
use Rattle.engine.proofs.idle.Goals as goal

pub returns-then-again : goal.returns-then-again
returns-then-again c = asked_again c.args.again c.args.kick c.if-again.true
