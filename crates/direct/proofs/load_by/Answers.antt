-- `direct::load_by` meets its contract. Assumes nothing.
use Rattle.direct.proofs.Laws.{load_not, load_made}
use Rattle.image.proofs.Rows.{image_long}
use mathlib.Core.Path.{refl, sym, ◌∙◌}
use native.Mathlib.Omega.{arith}
use Rattle.direct.proofs.load_by.Goals as goal

pub returns-then-not-is_image : goal.returns-then-not-is_image
returns-then-not-is_image c = (load_not _ _ (sym c.is_image.ensures ∙ c.if-not-is_image.true) c.packed.ensures, λ n is. refl)

pub get_device-requires : goal.get_device-requires
get_device-requires c = image_long _ (sym c.is_image.ensures ∙ c.if-not-is_image.false)

pub returns : goal.returns
returns c = (load_made _ _ (sym c.is_image.ensures ∙ c.if-not-is_image.false) c.get_device.ensures, λ n is. absurd (omega (arith, is)))
