-- The loop's invariant: what is left to read, behind what was read, is the whole.
use Rattle.std.proofs.Common.{◌≡◌, ◌+◌, ◌-◌, ◌*◌, ◌^◌, ◌<◌, length, take}
use Rattle.rules.specs.Minor.{read_sizes}
use Rattle.unequal_sizes.proofs.Reading.{Rests}
use Rattle.unequal_sizes.specs.Stages.{reads_of}
use Rattle.unequal_sizes.proofs.read_units.Given as goal

abbrev pub invariant-loop : goal.invariant-loop
invariant-loop g l =
    (l.s < 2 ^ 32)
    × (length l.staging ≡ length l.initial.staging)
    × (l.len + (l.sizes.count - l.counter) * g.row.WIDTH ≡ l.sizes.count * g.row.WIDTH)
    × Rests l.base l.window (read_sizes (l.sizes.count - l.counter) l.sizes.off l.sizes.modulo g.row.WIDTH l.s (take l.len l.staging))
    (reads_of l.sizes g.row.WIDTH)
