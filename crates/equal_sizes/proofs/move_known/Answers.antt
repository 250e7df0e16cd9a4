-- `equal_sizes::move_known` meets its contract: the law of a unit whose place is known. Assumes nothing.
use Rattle.journal.proofs.Laws.{table-width}
use Rattle.equal_sizes.proofs.KnownLaws.{within_fits, unit_there}
use Rattle.equal_sizes.proofs.move_known.Goals as goal

pub get_width-v-requires : goal.get_width-v-requires
get_width-v-requires g c = (within_fits c.requires.0, table-width _ c.requires.3)

pub returns : goal.returns
returns g c =
    let a = c.args in
    unit_there a.base a.window.now a.journal.now a.at g.row.WIDTH a.a c.requires.0 a.b _ _ c.get_width-v.ensures c.store_known.ensures
