-- `image::put_priorities` meets its contract, in each mode. Assumes nothing.
use Rattle.image.proofs.Rows.{sixes_laid, none_laid}
use Rattle.rules.proofs.Typed.{sound}
use Rattle.image.proofs.put_priorities.Goals as goal

pub returns-then-d : goal.returns-then-d
returns-then-d c = sixes_laid c.args.d (sound c.args.d c.well_formed.1.0) _ _ c.if-d.true c.put_sixes.ensures

pub returns-else-d : goal.returns-else-d
returns-else-d c = none_laid c.args.d (sound c.args.d c.well_formed.1.0) _ _ c.if-d.false c.put_row.ensures
