-- `closing::note_sources` meets its contract. Assumes nothing.
use Rattle.closing.proofs.Parts.{same-part}
use Rattle.closing.proofs.note_sources.Goals as goal

pub returns-then-not-touched : goal.returns-then-not-touched
returns-then-not-touched c x p h = let a = c.args in same-part a.before a.after x p (h c.if-not-touched.true) _ _

pub returns : goal.returns
returns c x p h = c.note_levels.ensures
