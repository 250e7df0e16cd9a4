-- `turns::release` meets its contract. Assumes nothing.
use mathlib.Core.List.{List}
use mathlib.Core.Path.{◌≡◌}
use Prim.Native.Nat.{ℕ, ◌-◌}
use Rattle.rules.specs.Carry.{go, Lent}
use Rattle.rules.specs.Run.{release}
use Rattle.rules.specs.With.{with_busy}
use Rattle.rules.specs.Fields.{holds}
use Rattle.rules.specs.Scalars.{ERQ}
use Rattle.rules.specs.State.{Device}
use Rattle.act.specs.Does.{beside}
use Rattle.turns.proofs.release.Given as goal

abbrev pub invariant-loop-ch : goal.invariant-loop-ch
invariant-loop-ch l =
    (base : ℕ) (lent : Lent) (mem used free : List ℕ) (d : Device) → holds ERQ d ≡ l.erq
    → go base lent (release l.time (64 - l.ch) l.ch l.m) (beside mem used free (with_busy d l.busy)) ≡ go base lent (release l.time 64 0 0) (beside mem used free (with_busy d l.initial.busy))
