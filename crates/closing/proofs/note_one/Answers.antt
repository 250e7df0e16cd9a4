-- `closing::note_one` meets its contract: by whether the field differs. Assumes nothing.
use Rattle.closing.proofs.Laws.{field_same, field_other}
use Rattle.closing.proofs.note_one.Goals as goal

pub returns-then-before-after : goal.returns-then-before-after
returns-then-before-after c = field_same _ _ _ _ c.if-before-after.true

pub returns : goal.returns
returns c = field_other _ _ _ _ c.if-before-after.false c.note.ensures
