-- `channel::request_loop` meets its contract. Assumes nothing.
use Rattle.rules.specs.With.{with_pending}
use Rattle.rules.specs.Run.{request_loop, request_passes}
use Prim.Native.Nat.{◌-◌}
use lib.ListN.{length}
use mathlib.Core.Path.{◌≡◌}
use Rattle.rules.specs.State.{Device}
use Rattle.rules.specs.Carry.{go, lending}
use Rattle.act.specs.Worlds.{world}
use Rattle.channel.proofs.request_loop.Given as goal

abbrev pub invariant-loop : goal.invariant-loop
invariant-loop l =
    (length l.window ≡ length l.initial.window)
    × (length l.staging ≡ length l.initial.staging)
    × (length l.journal ≡ length l.initial.journal)
    × ((d : Device)
    → go l.base (lending (length l.initial.staging)) (request_loop (request_passes - l.counter) l.ch) (world (with_pending d l.pending) l.f l.window l.journal l.table l.majors)
    ≡ go l.base (lending (length l.initial.staging)) (request_loop request_passes l.ch) (world (with_pending d l.initial.pending) l.initial.f l.initial.window l.initial.journal l.initial.table l.initial.majors))
