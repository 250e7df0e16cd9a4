-- `device::with_scalar` meets its contract: a list of numbers within their bits stays, one of them stored. Assumes nothing.
use Rattle.rules.proofs.Typed.{scalars-within}
use Rattle.device.proofs.Laws.{scalar_stored}
use Rattle.device.proofs.with_scalar.Goals as goal

pub returns : goal.returns
returns c =
    scalar_stored c.args.s c.from_list.result _ _ (scalars-within c.args.s c.well_formed.0) c.requires.1 c.listed-l.ensures c.from_list.ensures
