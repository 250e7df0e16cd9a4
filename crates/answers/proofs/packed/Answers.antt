-- `answers::packed` meets its contract. Assumes nothing.
use Rattle.answers.proofs.Laws.{packed_sum}
use Rattle.answers.proofs.packed.Goals as goal

pub returns : goal.returns
returns c = packed_sum c.args.status c.args.level c.args.vector c.args.low
