-- `closing::note_end` meets its contract: the count is that of the bytes since the group began, over 16. Assumes nothing.
use Rattle.closing.proofs.Laws.{end_full, end_at_lem}
use native.Mathlib.Omega.{arith}
use Rattle.closing.proofs.note_end.Goals as goal

pub returns-in_err-at : goal.returns-in_err-at
returns-in_err-at c = rw c.from_residual.ensures (end_full _ _ c.in_err-at.was)

pub returns : goal.returns
returns c = end_at_lem _ _ _ _ c.in_ok-at.was (omega (arith, c.span-records.ensures)) c.note.ensures
