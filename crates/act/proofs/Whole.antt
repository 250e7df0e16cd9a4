-- A call on a device by value, from the call on its parts. Assumes nothing.
use Rattle.std.specs.Prelude.{None}
use mathlib.Core.List.{List}
use mathlib.Core.Path.{◌≡◌}
use Prim.Native.Nat.{ℕ}
use Rattle.rules.specs.Calls.{Asked, told_acted, told_heard, after}
use Rattle.rules.specs.View.{view}
use Rattle.rules.specs.declared.Device.{Device as HeldDevice}
use Rattle.rules.specs.Verdicts.{Heard}
use Rattle.act.specs.Parts.{Arrays, whole, held, core_of, arrays_of, told_done}
use Rattle.act.specs.declared.Core.{Core}
use Rattle.act.specs.declared.Done.{Done}

module _ (call : Asked) (base : ℕ) (d : HeldDevice) (y : Arrays) (w s j w' s' j' : List ℕ) (used : ℕ) (k : Core) (r : Done) {e : HeldDevice} (is : k ≡ core_of d) where
  pub whole-told : told_done None r y w' s' j' ≡ after call base (whole k (arrays_of d)) w s j used
      → e ≡ held r.core y → told_acted (record { verdict = r.verdict; used = r.used; device = e }) w' s' j' ≡ after call base (view d) w s j used
  whole-told f g = rw g (rw is at f)

  pub whole_heard : (h : Heard) → told_done h r y w' s' j' ≡ after call base (whole k (arrays_of d)) w s j used
      → e ≡ held r.core y → told_heard (record { verdict = r.verdict; heard = h; used = r.used; device = e }) w' s' j' ≡ after call base (view d) w s j used
  whole_heard h f g = rw g (rw is at f)
