-- `dma_commands::flag_each` meets its contract. Assumes nothing.
use Rattle.std.specs.Prelude.{Ok}
use Rattle.rules.specs.Carry.{Lent}
use Rattle.dma_commands.specs.Commands.{Makes}
use Rattle.act.specs.Worlds.{came_to, on}
use Rattle.rules.specs.State.{Device}
use Rattle.rules.specs.Registers.{flag_each}
use Prim.Native.Nat.{ℕ, ◌-◌}
use mathlib.Core.Path.{◌≡◌}
use mathlib.Core.List.{List}
use Rattle.dma_commands.proofs.flag_each.Given as goal

abbrev pub invariant-loop-ch : goal.invariant-loop-ch
invariant-loop-ch g l =
    (made : ℕ → ℕ) → Makes (goal.F-post g l.flagged) made → (base : ℕ) (lent : Lent) (d : Device) (w x : List ℕ)
    → on base lent (flag_each made l.m (64 - l.ch) l.ch) (came_to (Ok l.c) d w l.journal l.table x) ≡ on base lent (flag_each made l.m 64 0) (came_to (Ok l.initial.c) d w l.initial.journal l.initial.table x)
