-- The loop's invariant: what is left to move from here is the whole from the start, and is known to lie in the window with room for its records.
use Rattle.std.proofs.Common.{◌≡◌, ◌-◌, ◌^◌, ◌<◌, length}
use Rattle.act.proofs.Loops.{Remains}
use Rattle.equal_sizes.specs.Known.{Known, sizes_of}
use Rattle.equal_sizes.proofs.run_known.Given as goal

abbrev pub invariant-loop : goal.invariant-loop
invariant-loop g l =
    (l.s < 2 ^ 32)
    × (l.d < 2 ^ 32)
    × (length l.window ≡ length l.initial.window)
    × (length l.journal ≡ length l.initial.journal)
    × (Known l.base (length l.initial.window) g.row.WIDTH (l.count - l.counter) l.step l.s l.d (length l.initial.journal) l.end)
    × Remains l.base (sizes_of (l.count - l.counter) l.step g.row.WIDTH l.s l.d) l.end l.window l.journal (sizes_of l.count l.step g.row.WIDTH l.from l.to) l.at l.initial.window l.initial.journal
