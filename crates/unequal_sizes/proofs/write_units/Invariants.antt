-- The loop's invariant: what is left to write from here is the whole from the start.
use Rattle.std.proofs.Common.{◌≡◌, ◌+◌, ◌-◌, ◌*◌, ◌^◌, ◌<◌, length}
use Rattle.rules.specs.Minor.{write_sizes}
use Rattle.act.proofs.Loops.{Remains}
use Rattle.unequal_sizes.specs.Stages.{writes_of}
use Rattle.unequal_sizes.proofs.write_units.Given as goal

abbrev pub invariant-loop : goal.invariant-loop
invariant-loop g l =
    (l.d < 2 ^ 32)
    × (length l.window ≡ length l.initial.window)
    × (length l.journal ≡ length l.initial.journal)
    × (l.pos + (l.sizes.count - l.counter) * g.row.WIDTH ≡ l.sizes.count * g.row.WIDTH)
    × Remains l.base (write_sizes (l.sizes.count - l.counter) l.sizes.off l.sizes.modulo g.row.WIDTH l.d l.staging l.pos)
    l.journal_end l.window l.journal (writes_of l.sizes g.row.WIDTH l.staging) l.at l.initial.window l.initial.journal
