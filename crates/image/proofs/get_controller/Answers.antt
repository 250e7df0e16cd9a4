-- `image::get_controller` meets its contract. Assumes nothing.
use Rattle.image.specs.Image.{controller_in}
use mathlib.Core.Path.{refl}
use Rattle.image.proofs.get_controller.Goals as goal

pub returns : goal.returns
returns c =
    rw (c.number_at.ensures, c.number_at-2.ensures, c.number_at-3.ensures, c.get_row.ensures, c.number_at-4.ensures) (unfold controller_in in refl)
