-- `journal::undo_stores` meets its contract. The loop's invariant: what is left to undo from here gives what undoing all gives from the start. Assumes nothing.
use Rattle.journal.specs.Undoing.{machine_of, undo_lines}
use Rattle.rules.specs.State.{Device}
use lib.ListN.{length, drop}
use mathlib.Core.Path.{◌≡◌}
use Rattle.journal.proofs.undo_stores.Given as goal

abbrev pub invariant-loop-k : goal.invariant-loop-k
invariant-loop-k l =
    ((d : Device) → undo_lines l.base l.k (drop l.from l.journal) (machine_of l.window l.table d) ≡ undo_lines l.base l.count (drop l.from l.journal) (machine_of l.initial.window l.initial.table d)) × (length l.window ≡ length l.initial.window)
