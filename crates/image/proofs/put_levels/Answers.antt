-- `image::put_levels` meets its contract. Assumes nothing.
use Rattle.image.proofs.Rows.{levels-laid, laid_as}
use Rattle.rules.specs.View.{view}
use Rattle.rules.proofs.Typed.{sound}
use Rattle.image.proofs.put_levels.Goals as goal

pub returns : goal.returns
returns c =
    levels-laid (view c.args.d) (sound c.args.d c.well_formed.1.0) _ _ _ _ _ (laid_as _ _ _ c.put_row.ensures c.controller_at.ensures.0) (laid_as _ _ _ c.put_row-2.ensures c.controller_at-2.ensures.0) (laid_as _ _ _ c.put_row-3.ensures c.controller_at-3.ensures.0) c.put_row-4.ensures
