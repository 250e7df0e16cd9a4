-- `image::put_own` meets its contract. Assumes nothing.
use Rattle.image.proofs.Rows.{own_laid}
use Rattle.rules.specs.View.{view}
use Rattle.image.proofs.put_own.Goals as goal

pub returns : goal.returns
returns c =
    own_laid (view c.args.d) _ _ _ c.controller_at-a.ensures.0 c.controller_at-b.ensures.0 c.controller_at-c.ensures.0 c.put_row.ensures
