-- `channel::line_loop` meets its contract. Assumes nothing.
use mathlib.Core.Path.{◌≡◌}
use Rattle.rules.specs.Run.{line_loop, line_passes}
use Prim.Native.Nat.{◌-◌, ◌≤◌, ◌^◌}
use lib.ListN.{length}
use Rattle.rules.specs.State.{Device}
use Rattle.rules.specs.Carry.{go, lending}
use Rattle.act.specs.Worlds.{world}
use Rattle.channel.proofs.line_loop.Given as goal

abbrev pub invariant-loop : goal.invariant-loop
invariant-loop l =
    (length l.window ≡ length l.initial.window)
    × (length l.staging ≡ length l.initial.staging)
    × (length l.journal ≡ length l.initial.journal)
    × (l.sum ≤ 2 ^ 20)
    × ((d : Device) → go l.base (lending (length l.initial.staging)) (line_loop (line_passes - l.counter) l.sum) (world d l.f l.window l.journal l.table l.majors)
    ≡ go l.base (lending (length l.initial.staging)) (line_loop line_passes 0) (world d l.initial.f l.initial.window l.initial.journal l.initial.table l.initial.majors))
