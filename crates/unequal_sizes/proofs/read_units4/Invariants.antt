-- The loop's invariant: the units that are left, from number k on and behind what was read, are the whole.
use Rattle.std.proofs.Common.{◌≡◌, ◌+◌, ◌-◌, ◌*◌, length, take}
use Rattle.rules.specs.Minor.{read_units}
use Rattle.unequal_sizes.proofs.Reading.{Rests}
use Rattle.unequal_sizes.proofs.read_units4.Given as goal

abbrev pub invariant-loop-k : goal.invariant-loop-k
invariant-loop-k l =
    (length l.staging ≡ length l.initial.staging)
    × Rests l.base l.window (read_units (l.count - l.k) l.k 4 l.from (take (l.len + l.k * 4) l.staging))
    (read_units l.count 0 4 l.from (take l.len l.initial.staging))
