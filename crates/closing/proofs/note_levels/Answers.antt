-- `closing::note_levels` meets its contract: controller after controller. Assumes nothing.
use Rattle.closing.proofs.Parts.{levels-done}
use Rattle.closing.proofs.note_levels.Goals as goal

pub returns : goal.returns
returns c =
    let a = c.args in
    levels-done a.s _ a.before a.after c.note_level-first.ensures c.note_level-second.ensures c.note_level.ensures
