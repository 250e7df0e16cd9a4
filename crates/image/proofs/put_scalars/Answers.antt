-- `image::put_scalars` meets its contract. Assumes nothing.
use Rattle.image.proofs.Rows.{scalars-laid}
use Rattle.rules.specs.View.{view}
use Rattle.rules.proofs.Typed.{sound}
use Rattle.image.proofs.put_scalars.Goals as goal

pub returns : goal.returns
returns c =
    scalars-laid (view c.args.d) (sound c.args.d c.well_formed.1.0) _ _ _ c.listed-listed.ensures c.put_row.ensures c.put_row-2.ensures
