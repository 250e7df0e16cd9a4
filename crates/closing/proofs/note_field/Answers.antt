-- `closing::note_field` meets its contract: once a record did not fit, nothing more happens. Assumes nothing.
use Rattle.closing.proofs.Laws.{stays_full, told_at}
use Rattle.closing.proofs.note_field.Goals as goal

pub returns-in_err-at : goal.returns-in_err-at
returns-in_err-at c = rw c.from_residual.ensures (stays_full _ _ c.in_err-at.was)

pub returns : goal.returns
returns c = told_at _ _ _ c.in_ok-at.was c.note_one.ensures
