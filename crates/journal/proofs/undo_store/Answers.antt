-- `journal::undo_store` meets its contract, by the record's kind. Assumes nothing.
use Rattle.journal.proofs.UndoLaws.{of_kind, other_kind}
use Rattle.journal.proofs.undo_store.Goals as goal

pub returns-in-0 : goal.returns-in-0
returns-in-0 c = of_kind _ _ _ c.get-kind.ensures c.get-width.ensures c.get-place.ensures c.get-old.ensures _ _ 0 c.in-0.is (c.undo_memory.ensures _)

pub returns-in-1 : goal.returns-in-1
returns-in-1 c = of_kind _ _ _ c.get-kind.ensures c.get-width.ensures c.get-place.ensures c.get-old.ensures _ _ 1 c.in-1.is (c.undo_table.ensures _ _)

pub returns-in_default : goal.returns-in_default
returns-in_default c = let no = c.in_default.in_default-own.rest in other_kind _ _ _ c.get-kind.ensures c.get-width.ensures c.get-place.ensures c.get-old.ensures _ _ no.0.1 no.1
