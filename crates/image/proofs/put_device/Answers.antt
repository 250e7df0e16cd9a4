-- `image::put_device` meets its contract. Assumes nothing.
use Rattle.image.proofs.Rows.{image_laid}
use Rattle.rules.specs.View.{view}
use Rattle.rules.proofs.Typed.{sound, table-size}
use Rattle.image.proofs.put_device.Goals as goal

pub returns : goal.returns
returns c =
    image_laid (view c.args.d) (sound c.args.d c.well_formed.1.0) (table-size c.args.d c.well_formed.1.0) _ _ _ _ _ _ _ _ c.requires c.put_table.ensures c.put_flags.ensures c.put_scalars.ensures c.put_own.ensures c.put_channels.ensures c.put_levels.ensures c.put_taken.ensures
