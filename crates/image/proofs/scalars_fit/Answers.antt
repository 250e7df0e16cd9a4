-- `image::scalars_fit` meets its contract. Assumes nothing.
use Rattle.image.proofs.FitLaws.{scalars_fit_lem}
use Rattle.image.proofs.scalars_fit.Goals as goal

pub returns : goal.returns
returns c =
    scalars_fit_lem _ (λ i. (c.type_inv.image i).fits) c.get_row.ensures c.from_list-scalars.ensures
    c.listed-listed.ensures c.starts_with.ensures.value c.fits.ensures
