-- `chip::run_chip` meets its contract. The loop's invariant: what is left to do from here is the whole, and what is kept is what is there.
use mathlib.Core.Path.{◌≡◌}
use Prim.Native.Nat.{◌-◌}
use lib.ListN.{length}
use mathlib.Core.Bool.{true}
use Rattle.rules.specs.Carry.{go, lending}
use Rattle.rules.specs.Run.{chip_turns, run_turns}
use Rattle.rules.specs.State.{Device}
use Rattle.rules.specs.View.{view_priorities}
use Rattle.rules.proofs.Proper.{Proper}
use Rattle.turns.specs.Turns.{turning}
use Rattle.chip.proofs.Turning.{Stands}
use Rattle.chip.proofs.run_chip.Given as goal

abbrev pub invariant-loop : goal.invariant-loop
invariant-loop l =
    (length l.window ≡ length l.initial.window)
    × (length l.staging ≡ length l.initial.staging)
    × (length l.journal ≡ length l.initial.journal)
    × ((d : Device)
    → Proper (turning d l.initial.s l.initial.window l.initial.journal l.initial.table l.initial.busy l.initial.majors l.initial.pending).now.dev
    → d.priorities ≡ view_priorities true l.priorities
    → Stands l.base (lending (length l.initial.staging)) l.clock.now l.clock.pace l.priorities d
    (go l.base (lending (length l.initial.staging)) (chip_turns l.clock.now l.clock.pace run_turns 0) (turning d l.initial.s l.initial.window l.initial.journal l.initial.table l.initial.busy l.initial.majors l.initial.pending)) l.k l.s l.window l.journal l.table l.busy l.majors l.pending (run_turns - l.counter))
