-- The loop's invariant: the units that are left, from number k on, are the whole from the start.
use Rattle.std.proofs.Common.{◌≡◌, ◌-◌, length}
use Rattle.rules.specs.Minor.{write_units}
use Rattle.act.proofs.Loops.{Remains}
use Rattle.unequal_sizes.proofs.write_units4.Given as goal

abbrev pub invariant-loop-k : goal.invariant-loop-k
invariant-loop-k l =
    (length l.window ≡ length l.initial.window)
    × (length l.journal ≡ length l.initial.journal)
    × Remains l.base (write_units (l.count - l.k) l.k 4 l.to l.staging l.pos)
    l.journal_end l.window l.journal (write_units l.count 0 4 l.to l.staging l.pos) l.at l.initial.window l.initial.journal
