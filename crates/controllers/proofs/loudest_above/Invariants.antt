-- `controllers::loudest_above` meets its contract. The loop's invariant: what was found, over what is found in the sources that are left,
use Rattle.std.proofs.Common.{◌≡◌, ◌^◌, ◌<◌}
use Rattle.controllers.specs.Levels.{found, over}
use Rattle.rules.specs.Lines.{loudest_above}
use Rattle.controllers.proofs.loudest_above.Given as goal

abbrev pub invariant-loop-p : goal.invariant-loop-p
invariant-loop-p l = (l.p < 2 ^ 64) × (over (found l.best) (loudest_above l.ipl l.levels l.p 64) ≡ loudest_above l.ipl l.levels l.m 64)

abbrev pub decreases-loop-p : goal.decreases-loop-p
decreases-loop-p l = l.p
