-- `image::own_fit` meets its contract. Assumes nothing.
use Rattle.image.proofs.FitLaws.{own_fit}
use Rattle.image.proofs.own_fit.Goals as goal

pub returns : goal.returns
returns c = own_fit _ c.fits.ensures c.fits-2.ensures c.fits-3.ensures c.fits-4.ensures
