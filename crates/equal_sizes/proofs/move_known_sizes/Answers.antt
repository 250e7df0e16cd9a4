-- `equal_sizes::move_known_sizes` meets its contract, by the width. Assumes nothing.
use Rattle.equal_sizes.proofs.Laws.{four}
use Rattle.equal_sizes.proofs.move_known_sizes.Goals as goal

pub run_known-requires : goal.run_known-requires
run_known-requires c = rw c.in-1.is at c.requires

pub run_known-requires-in-2 : goal.run_known-requires-in-2
run_known-requires-in-2 c = rw c.in-2.is at c.requires

pub run_known-requires-in_default : goal.run_known-requires-in_default
run_known-requires-in_default c = rw (four _ c.requires.0 c.in_default.in_default-own.rest.0.1 c.in_default.in_default-own.rest.1) at c.requires

pub returns-in-1 : goal.returns-in-1
returns-in-1 c = rw c.in-1.is c.run_known.ensures

pub returns-in-2 : goal.returns-in-2
returns-in-2 c = rw c.in-2.is c.run_known-in-2.ensures

pub returns-in_default : goal.returns-in_default
returns-in_default c = rw (four _ c.requires.0 c.in_default.in_default-own.rest.0.1 c.in_default.in_default-own.rest.1) c.run_known-in_default.ensures
