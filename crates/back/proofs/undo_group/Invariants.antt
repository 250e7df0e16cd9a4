-- The invariant: undoing the records that are left, here and now, is undoing all of them at the start.
use Rattle.back.specs.Standing.{machine}
use Rattle.rules.specs.TakeBack.{decode_all}
use Rattle.rules.specs.Carry.{undo}
use Rattle.rules.specs.View.{view}
use Rattle.rules.specs.With.{with_table}
use lib.ListN.{length, drop}
use mathlib.Core.Path.{◌≡◌}
use Rattle.back.proofs.undo_group.Given as goal

abbrev pub invariant-loop-k : goal.invariant-loop-k
invariant-loop-k l =
    (undo l.base (decode_all l.k (drop l.from l.stands)) (machine l.window (with_table (view l.e) l.table)) ≡ undo l.base (decode_all l.count (drop l.from l.stands)) (machine l.initial.window (with_table (view l.initial.e) l.initial.table))) × (length l.window ≡ length l.initial.window) × (length l.table ≡ 2048) × (l.e.chip ≡ l.initial.e.chip)
