-- `equal_sizes::store_known` meets its contract: the law of a store in the window, at every width. Assumes nothing.
use Rattle.journal.proofs.Laws.{table-width}
use Rattle.equal_sizes.proofs.KnownLaws.{within_fits, store-there}
use Rattle.equal_sizes.proofs.store_known.Goals as goal

pub get_width-old-requires : goal.get_width-old-requires
get_width-old-requires c = (within_fits c.requires.0, table-width _ c.requires.2)

pub put_width-requires : goal.put_width-requires
put_width-requires c = (within_fits c.requires.0, table-width _ c.requires.2)

pub returns : goal.returns
returns c =
    let p = c.requires in
    store-there _ _ _ _ _ _ p.0 _ p.2 p.1 c.get_width-old.ensures c.put_width.ensures c.put_record.ensures
