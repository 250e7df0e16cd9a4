-- `minor::transfer` meets its contract, by whether the sizes are equal. Assumes nothing.
use Rattle.minor.proofs.Laws.{transfer_equal, transfer_unequal}
use Rattle.minor.proofs.transfer.Goals as goal

pub returns-then-ssize-dsize : goal.returns-then-ssize-dsize
returns-then-ssize-dsize c d =
    let a = c.args in
    rw (← transfer_equal a.t a.n c.size_of-ssize.ensures.0 c.size_of-dsize.ensures.0 c.steps_of-step.ensures c.whole_sizes-reads.ensures.0 c.if-ssize-dsize.true)
    (c.move_sizes.ensures _ d)

pub move_unequal-requires : goal.move_unequal-requires
move_unequal-requires c =
    (c.size_of-ssize.ensures.1, c.size_of-dsize.ensures.1, c.whole_sizes-reads.ensures.1)

pub returns : goal.returns
returns c d =
    let a = c.args in
    rw (← transfer_unequal a.t a.n c.size_of-ssize.ensures.0 c.size_of-dsize.ensures.0 c.steps_of-step.ensures c.whole_sizes-reads.ensures.0 c.if-ssize-dsize.false)
    (c.move_unequal.ensures d)
