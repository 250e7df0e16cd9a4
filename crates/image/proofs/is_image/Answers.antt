-- `image::is_image` meets its contract. Assumes nothing.
use Rattle.image.proofs.FitLaws.{image_asked}
use Rattle.image.proofs.Rows.{no_image}
use borrow.Author.Rules.{rules}
use Rattle.image.proofs.is_image.Goals as goal

pub returns-then-image-ne-BYTES : goal.returns-then-image-ne-BYTES
returns-then-image-ne-BYTES c = no_image _ (search rules)

pub returns : goal.returns
returns c =
    image_asked _ (search rules) (λ i. (c.type_inv.image i).fits) c.setting_fits.ensures c.scalars_fit.ensures
    c.own_fit.ensures c.fits.ensures c.fits-2.ensures c.fits-3.ensures c.held_bits.ensures c.fits-4.ensures
