-- `controllers::loudest` meets its contract. The loop's invariant: the loudest so far and the loudest of the sources that are left make up
use Rattle.rules.specs.Lines.{loudest}
use Rattle.std.proofs.Common.{◌≡◌, ◌^◌, ◌<◌, max}
use Rattle.controllers.proofs.loudest.Given as goal

abbrev pub invariant-loop-p : goal.invariant-loop-p
invariant-loop-p l = (l.p < 2 ^ 64) × (max l.best (loudest l.levels l.p 64) ≡ loudest l.levels l.m 64)

abbrev pub decreases-loop-p : goal.decreases-loop-p
decreases-loop-p l = l.p
