-- The loop's invariant is that of `move_units`.
use Rattle.std.proofs.Common.{◌≡◌, ◌-◌, length}
use Rattle.rules.specs.Minor.{move_sizes}
use Rattle.act.proofs.Loops.{Remains}
use Rattle.equal_sizes.proofs.move_bursts.Given as goal

abbrev pub invariant-loop : goal.invariant-loop
invariant-loop l =
    (length l.window ≡ length l.initial.window)
    × (length l.journal ≡ length l.initial.journal)
    × Remains l.base (move_sizes (l.count - l.counter) l.step.soff l.step.smod l.step.doff l.step.dmod l.size l.s l.d) l.end l.window l.journal (move_sizes l.count l.step.soff l.step.smod l.step.doff l.step.dmod l.size l.from l.to) l.at l.initial.window l.initial.journal
