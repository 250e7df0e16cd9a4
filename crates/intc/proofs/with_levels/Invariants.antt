-- `intc::with_levels` meets its contract. The loop's invariant: the bytes from `i` on are laid down, and the rest of the value is what
use Rattle.rules.specs.View.{view_controller}
use Rattle.rules.specs.With.{with_levels}
use Rattle.rules.specs.Bytes.{bytes, splice}
use Prim.Native.Nat.{◌+◌, ◌-◌, ◌/◌, ◌^◌}
use mathlib.Core.Path.{◌≡◌}
use Rattle.intc.proofs.with_levels.Given as goal

abbrev pub invariant-loop-i : goal.invariant-loop-i
invariant-loop-i l = (l.rest ≡ l.v / 256 ^ (l.size - l.i)) × (view_controller l.e ≡ with_levels (view_controller l.initial.e) (splice l.initial.e.levels (l.s + l.i) (bytes (l.size - l.i) l.v)))
