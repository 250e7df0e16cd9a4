-- What a test of an offset says. Assumes nothing.
use mathlib.Core.Bool.{Bool, true, false, ◌&&◌}
use mathlib.Core.Path.{◌≡◌, refl}
use Prim.Native.Nat.{ℕ, ◌≤◌}
use borrow.Author.Tests.{leb-true}
use lib.Dec.{leb}
use Rattle.rules.specs.Registers.{within}
use Rattle.rules.proofs.BoolLaws.{and_left, and_right}

pub within_true : (lo hi off : ℕ) → within lo hi off ≡ true → (lo ≤ off) × (off ≤ hi)
unfolding within
within_true lo hi off e = (leb-true lo off (and_left (leb lo off) (leb off hi) e), leb-true off hi (and_right (leb lo off) (leb off hi) e))

pub never : (b : Bool) → b && false ≡ false
never true = refl
never false = refl
