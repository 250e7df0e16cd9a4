-- `equal_sizes::move_asking` meets its contract, by the size. Assumes nothing.
use Rattle.equal_sizes.proofs.Laws.{bursting}
use Rattle.equal_sizes.proofs.move_asking.Goals as goal

pub move_bursts-requires : goal.move_bursts-requires
move_bursts-requires c =
    let others = c.in_default.in_default-own.rest in
    (bursting _ c.requires others.0.0.1 others.0.1 others.1, c.requires.most)

pub returns-in-1 : goal.returns-in-1
returns-in-1 c = rw c.in-1.is c.move_units.ensures

pub returns-in-2 : goal.returns-in-2
returns-in-2 c = rw c.in-2.is c.move_units-in-2.ensures

pub returns-in-4 : goal.returns-in-4
returns-in-4 c = rw c.in-4.is c.move_units-in-4.ensures
