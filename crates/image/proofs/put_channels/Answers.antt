-- `image::put_channels` meets its contract. Assumes nothing.
use Rattle.image.proofs.Rows.{channels_laid}
use Rattle.rules.specs.View.{view}
use Rattle.rules.proofs.Typed.{sound}
use mathlib.Core.List.{[]}
use Rattle.image.proofs.put_channels.Goals as goal

pub returns : goal.returns
returns c =
    channels_laid (view c.args.d) (sound c.args.d c.well_formed.1.0) _ _ _ _ [] c.put_row.ensures c.put_row-2.ensures c.put_row-3.ensures
