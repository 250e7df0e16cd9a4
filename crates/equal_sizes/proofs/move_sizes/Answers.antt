-- `equal_sizes::move_sizes` meets its contract: known units have the same tree. Assumes nothing.
use Rattle.rules.specs.Calls.{world_of}
use Rattle.equal_sizes.proofs.KnownLaws.{same_tree}
use Rattle.equal_sizes.proofs.move_sizes.Goals as goal

pub move_known_sizes-requires : goal.move_known_sizes-requires
move_known_sizes-requires c =
    let known = c.all_known.ensures c.if-all_known.true in
    (c.units_of-units.ensures.width known.small, known)

pub returns-then-all_known : goal.returns-then-all_known
returns-then-all_known c lent dev =
    let known = c.all_known.ensures c.if-all_known.true in
    let a = c.args in
    same_tree a.base lent (world_of dev a.window.now a.journal.now a.at) c.units_of-units.ensures known c.ranges.from.fits c.ranges.to.fits (c.move_known_sizes.ensures lent dev)
