-- `chip::look` meets its contract. The loop's invariant: the channels below have been looked at. Assumes nothing.
use mathlib.Core.Path.{◌≡◌}
use Rattle.chip.specs.Seen.{SeesBelow}
use Rattle.chip.proofs.look.Given as goal

abbrev pub invariant-loop-ch : goal.invariant-loop-ch
invariant-loop-ch l = SeesBelow l.ch l.time l.k l.table l.busy l.pending × (l.k.past ≡ 0)
