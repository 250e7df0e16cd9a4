-- `judge::plan_of` meets its contract. Assumes nothing.
use Rattle.judge.proofs.Cases.{bytes_fit, a_plan}
use Rattle.std.proofs.Common.{rules}
use Rattle.judge.proofs.plan_of.Goals as goal

pub overflow_mul-bytes : goal.overflow_mul-bytes
overflow_mul-bytes c = search (rules, bytes_fit _ _ c.side_of-source.ensures.0 c.reads_of.ensures.1)

pub returns : goal.returns
returns c = a_plan _ _ c.side_of-source.ensures.0 c.side_of-source.ensures.1 c.side_of-dest.ensures.0 c.side_of-dest.ensures.1 c.reads_of.ensures.0 c.gathers.ensures
