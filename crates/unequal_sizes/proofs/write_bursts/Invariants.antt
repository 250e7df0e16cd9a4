-- The loop's invariant is that of `write_units`.
use Rattle.std.proofs.Common.{◌≡◌, ◌+◌, ◌-◌, ◌*◌, length}
use Rattle.rules.specs.Minor.{write_sizes}
use Rattle.act.proofs.Loops.{Remains}
use Rattle.unequal_sizes.specs.Stages.{writes_of}
use Rattle.unequal_sizes.proofs.write_bursts.Given as goal

abbrev pub invariant-loop : goal.invariant-loop
invariant-loop l =
    (length l.window ≡ length l.initial.window)
    × (length l.journal ≡ length l.initial.journal)
    × (l.pos + (l.sizes.count - l.counter) * l.size ≡ l.sizes.count * l.size)
    × Remains l.base (write_sizes (l.sizes.count - l.counter) l.sizes.off l.sizes.modulo l.size l.d l.staging l.pos)
    l.journal_end l.window l.journal (writes_of l.sizes l.size l.staging) l.at l.initial.window l.initial.journal
