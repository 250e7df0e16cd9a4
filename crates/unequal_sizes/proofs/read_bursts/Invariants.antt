-- The loop's invariant is that of `read_units`.
use Rattle.std.proofs.Common.{◌≡◌, ◌+◌, ◌-◌, ◌*◌, length, take}
use Rattle.rules.specs.Minor.{read_sizes}
use Rattle.unequal_sizes.proofs.Reading.{Rests}
use Rattle.unequal_sizes.specs.Stages.{reads_of}
use Rattle.unequal_sizes.proofs.read_bursts.Given as goal

abbrev pub invariant-loop : goal.invariant-loop
invariant-loop l =
    (length l.staging ≡ length l.initial.staging)
    × (l.len + (l.sizes.count - l.counter) * l.size ≡ l.sizes.count * l.size)
    × Rests l.base l.window (read_sizes (l.sizes.count - l.counter) l.sizes.off l.sizes.modulo l.size l.s (take l.len l.staging)) (reads_of l.sizes l.size)
