-- `chip::choose` meets its contract. The loop's invariant: the choice among the channels left, from the best so far, is the whole. The measure is the
use mathlib.Core.Bool.{true}
use mathlib.Core.Logic.{◌⊎◌}
use mathlib.Core.Path.{◌≡◌}
use Prim.Native.Nat.{◌^◌, ◌<◌}
use Rattle.rules.specs.View.{view_priorities}
use Rattle.chip.specs.Chosen.{chosen}
use Rattle.chip.proofs.Choosing.{Walks}
use Rattle.chip.proofs.choose.Given as goal

abbrev pub invariant-loop-left : goal.invariant-loop-left
invariant-loop-left l =
    (l.left < 2 ^ 64) × Walks l.priorities (chosen l.ready (view_priorities true l.priorities) 64 0 64 0) l.left l.best l.top × ((l.best < 64) ⊎ ((0 < l.left) × (l.top ≡ 0)))

abbrev pub decreases-loop-left : goal.decreases-loop-left
decreases-loop-left l = l.left
