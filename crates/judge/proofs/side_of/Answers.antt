-- `judge::side_of` meets its contract. Assumes nothing.
use Rattle.judge.proofs.Cases.{a_side}
use Rattle.judge.proofs.side_of.Goals as goal

pub returns : goal.returns
returns c = a_side _ _ c.before.before.size_of-size.ensures.0 c.before.before.size_of-size.ensures.1 c.unit_of-unit.ensures c.signed16.ensures
