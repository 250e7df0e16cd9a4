-- `judge::start` meets its contract. Assumes nothing.
use Rattle.judge.proofs.Cases.{idle, starts_equal, starts_unequal}
use Rattle.judge.proofs.start.Goals as goal

pub returns-then-count_of-eq0 : goal.returns-then-count_of-eq0
returns-then-count_of-eq0 c = (idle _ _ c.count_of.ensures c.if-count_of-eq0.true, tt)

pub returns-then-p : goal.returns-then-p
returns-then-p c = (starts_equal _ _ c.count_of.ensures c.if-count_of-eq0.false c.requires.0 c.reads_of-reads.ensures.0 c.if-p.true c.moves_from.ensures.0, c.moves_from.ensures.1)

pub returns : goal.returns
returns c = (starts_unequal _ _ c.count_of.ensures c.if-count_of-eq0.false c.requires.0 c.reads_of-reads.ensures.0 c.if-p.false c.reads_from.ensures.0, c.reads_from.ensures.1)
