-- `closing::note_block` meets its contract: elements that are the same leave no record. Assumes nothing.
use Rattle.closing.proofs.Laws.{none_changed}
use Rattle.closing.proofs.note_block.Goals as goal

pub returns-then-same : goal.returns-then-same
returns-then-same g c = none_changed _ _ _ _ (c.same.ensures c.if-same.true)
