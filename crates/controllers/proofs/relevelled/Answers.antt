-- `controllers::relevelled` meets its contract: what the callees ensure of each controller. Assumes nothing.
use Rattle.controllers.proofs.DeviceLaws.{made_anew}
use Rattle.controllers.proofs.relevelled.Goals as goal

pub returns : goal.returns
returns c =
    let a = c.args in
    made_anew a.ignore a.int a.controllers c.driven_by-x.ensures c.driven_by-y.ensures c.driven_by-z.ensures
    c.level_of-2.ensures c.level_of.ensures c.level_of-3.ensures c.max-low.ensures c.max-level.ensures
