-- The loop's invariant: the units that are left, from number k on, are the whole from the start.
use Rattle.std.proofs.Common.{◌≡◌, ◌-◌, length}
use Rattle.rules.specs.Minor.{move_units}
use Rattle.act.proofs.Loops.{Remains}
use Rattle.equal_sizes.proofs.move_units4.Given as goal

abbrev pub invariant-loop-k : goal.invariant-loop-k
invariant-loop-k l =
    (length l.window ≡ length l.initial.window)
    × (length l.journal ≡ length l.initial.journal)
    × Remains l.base (move_units (l.count - l.k) l.k 4 l.from l.to) l.end l.window l.journal (move_units l.count 0 4 l.from l.to) l.at l.initial.window l.initial.journal
