-- `image::put_taken` meets its contract. Assumes nothing.
use Rattle.image.proofs.Rows.{taken-laid}
use Rattle.rules.specs.View.{view}
use Rattle.rules.proofs.Typed.{sound}
use mathlib.Core.List.{[]}
use Rattle.image.proofs.put_taken.Goals as goal

pub returns : goal.returns
returns c =
    taken-laid (view c.args.d) (sound c.args.d c.well_formed.1.0) _ _ _ [] [] c.put_row.ensures c.put_priorities.ensures
