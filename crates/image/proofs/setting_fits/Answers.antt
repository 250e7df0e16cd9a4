-- `image::setting_fits` meets its contract. Assumes nothing.
use Rattle.image.proofs.FitLaws.{setting_fit}
use Rattle.image.proofs.setting_fits.Goals as goal

pub returns : goal.returns
returns c = setting_fit _ (λ i. (c.type_inv.image i).fits) c.flags_of-flags.ensures c.get.ensures c.get-2.ensures
