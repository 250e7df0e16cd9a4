-- `closing::note_core` meets its contract: the scalars, then each controller. Assumes nothing.
use Rattle.closing.proofs.Parts.{core_done}
use Rattle.closing.proofs.note_core.Goals as goal

pub returns : goal.returns
returns c =
    let a = c.args in
    core_done a.s _ a.before a.after c.note_scalars-scalars.ensures c.note_own-first.ensures c.note_own-second.ensures c.note_own.ensures
