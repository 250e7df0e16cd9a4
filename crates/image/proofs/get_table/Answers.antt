-- `image::get_table` meets its contract. Assumes nothing.
use mathlib.Core.Path.{sym, ◌∙◌}
use native.Mathlib.Omega.{arith}
use Rattle.rules.proofs.Cut.{part_cut}
use Rattle.image.proofs.get_table.Goals as goal

pub returns : goal.returns
returns c = c.copy_from_slice.ensures.after ∙ sym (part_cut c.args.image.now 0 _ (omega arith))
