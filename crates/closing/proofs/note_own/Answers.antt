-- `closing::note_own` meets its contract: field after field. Assumes nothing.
use native.Mathlib.Omega.{arith}
use Rattle.closing.proofs.Laws.{field_on}
use Rattle.closing.proofs.note_own.Goals as goal

pub returns : goal.returns
returns c =
    field_on _ _ _ _ _ _ _ (omega arith) c.note_field-masks.ensures
    (field_on _ _ _ _ _ _ _ (omega arith) c.note_field-forced.ensures
    (field_on _ _ _ _ _ _ _ (omega arith) c.note_field-lines.ensures
    (rw (c.from.ensures, c.from-2.ensures) at c.note_field.ensures)))
