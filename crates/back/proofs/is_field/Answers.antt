-- `back::is_field` meets its contract. Assumes nothing.
use Rattle.back.proofs.UndoLaws.{kind_at}
use Rattle.back.proofs.is_field.Goals as goal

pub returns : goal.returns
returns c = kind_at _ _ c.get.ensures
