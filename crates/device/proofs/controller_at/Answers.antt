-- `device::controller_at` meets its contract: its bounds are those of the type. Assumes nothing.
use mathlib.Core.Path.{sym, subst}
use Rattle.rules.specs.View.{view}
use Rattle.rules.proofs.Typed.{sound}
use Rattle.rules.proofs.ViewLaws.{controller_viewed}
use Rattle.device.specs.Spots.{Fits}
use Rattle.device.proofs.Laws.{controller_fits}
use Rattle.device.proofs.controller_at.Goals as goal

pub returns : goal.returns
returns c =
    let d = c.args.d in
    let e = controller_viewed d.controllers c.args.c in
    (sym e, subst Fits e (controller_fits (view d) (sound d c.well_formed.0) c.args.c c.requires))
