-- `back::undo_field` meets its contract. Assumes nothing.
use Rattle.back.proofs.UndoLaws.{place_at_lem, value_at}
use Rattle.back.proofs.undo_field.Goals as goal

pub with_number-requires : goal.with_number-requires
with_number-requires c = rw (place_at_lem _ _ c.get-n.ensures, value_at _ _ c.get.ensures) c.requires.1

pub returns : goal.returns
returns c = rw (← place_at_lem _ _ c.get-n.ensures, ← value_at _ _ c.get.ensures) c.with_number.ensures
