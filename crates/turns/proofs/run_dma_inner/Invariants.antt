-- `turns::run_dma_inner` meets its contract. Assumes nothing.
use lib.ListN.{length}
use Prim.Native.Nat.{◌-◌}
use mathlib.Core.Path.{◌≡◌}
use Rattle.rules.specs.Carry.{go, lending}
use Rattle.rules.specs.Run.{turns, run_turns}
use Rattle.rules.specs.State.{Device}
use Rattle.turns.specs.Turns.{turning}
use Rattle.turns.proofs.run_dma_inner.Given as goal

abbrev pub invariant-loop : goal.invariant-loop
invariant-loop l =
    (length l.window ≡ length l.initial.window)
    × (length l.staging ≡ length l.initial.staging)
    × (length l.journal ≡ length l.initial.journal)
    × ((d : Device)
    → go l.base (lending (length l.initial.staging)) (turns l.clock.now l.clock.pace (run_turns - l.counter)) (turning d l.s l.window l.journal l.table l.busy l.majors l.pending)
    ≡ go l.base (lending (length l.initial.staging)) (turns l.clock.now l.clock.pace run_turns) (turning d l.initial.s l.initial.window l.initial.journal l.initial.table l.initial.busy l.initial.majors l.initial.pending))
