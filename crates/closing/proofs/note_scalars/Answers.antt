-- `closing::note_scalars` meets its contract: the numbers as a list, before and after. Assumes nothing.
use Rattle.closing.proofs.Laws.{stays_full, told_at, plain}
use Rattle.closing.proofs.note_scalars.Goals as goal

pub returns-in_err-at : goal.returns-in_err-at
returns-in_err-at c = rw c.from_residual.ensures (stays_full _ _ c.in_err-at.was)

pub returns : goal.returns
returns c = told_at _ _ _ c.in_ok-at.was (rw (← c.listed-b.ensures, ← c.listed-a.ensures) (plain _ _ _ _ c.note_each.ensures))
