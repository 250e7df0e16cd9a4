-- `channel::start_loop` meets its contract. Assumes nothing.
use Rattle.rules.specs.Run.{start_loop, start_passes}
use Prim.Native.Nat.{◌-◌}
use lib.ListN.{length}
use mathlib.Core.Path.{◌≡◌}
use Rattle.rules.specs.State.{Device}
use Rattle.rules.specs.Carry.{go, lending}
use Rattle.act.specs.Worlds.{world}
use Rattle.channel.proofs.start_loop.Given as goal

abbrev pub invariant-loop : goal.invariant-loop
invariant-loop l =
    (length l.window ≡ length l.initial.window)
    × (length l.staging ≡ length l.initial.staging)
    × (length l.journal ≡ length l.initial.journal)
    × ((d : Device) → go l.base (lending (length l.initial.staging)) (start_loop (start_passes - l.counter) l.ch l.before) (world d l.f l.window l.journal l.table l.majors)
    ≡ go l.base (lending (length l.initial.staging)) (start_loop start_passes l.ch l.before) (world d l.initial.f l.initial.window l.initial.journal l.initial.table l.initial.majors))
