-- The loop's invariant: what is left to move from here is the whole from the start.
use Rattle.std.proofs.Common.{◌≡◌, ◌-◌, ◌^◌, ◌<◌, length}
use Rattle.rules.specs.Minor.{move_sizes}
use Rattle.act.proofs.Loops.{Remains}
use Rattle.equal_sizes.proofs.move_units.Given as goal

abbrev pub invariant-loop : goal.invariant-loop
invariant-loop g l =
    (l.s < 2 ^ 32)
    × (l.d < 2 ^ 32)
    × (length l.window ≡ length l.initial.window)
    × (length l.journal ≡ length l.initial.journal)
    × Remains l.base (move_sizes (l.count - l.counter) l.step.soff l.step.smod l.step.doff l.step.dmod g.row.WIDTH l.s l.d) l.end l.window l.journal (move_sizes l.count l.step.soff l.step.smod l.step.doff l.step.dmod g.row.WIDTH l.from l.to) l.at l.initial.window l.initial.journal
