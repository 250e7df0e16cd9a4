-- `direct::run_by` meets its contract, from that of the call on a device in parts. Assumes nothing.
use mathlib.Core.Path.{refl}
use Rattle.direct.proofs.Laws.{proper_core, fed_left}
use Rattle.engine.specs.Runs.{call_of}
use Rattle.act.specs.Parts.{ordered, working}
use Rattle.direct.proofs.run_by.Goals as goal

pub returns : goal.returns
returns c =
    let a = c.args in
    let core = c.core_in in
    (λ x proper. fed_left (call_of a.again a.time a.pace) a.k core.result core.ensures c.run_in.result c.handed_back.result (working (ordered x a.priorities.now a.k.chip) _ _ _ _) (working (ordered x a.priorities.now a.k.chip) _ _ _ _) a.base _ _ _ _ _ _ a.used (c.run_in.ensures x (proper_core a.k core.result (working (ordered x a.priorities.now a.k.chip) _ _ _ _) core.ensures proper)) c.handed_back.ensures, λ n is. refl)
