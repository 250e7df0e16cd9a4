-- `image::fits` meets its contract. The loop's invariant: the greatest of the numbers behind those that are left fits exactly if all of them do. Assumes nothing.
use Rattle.image.specs.Fits.{fits_in}
use lib.Dec.{ltb}
use lib.ListN.{replicate}
use Prim.Native.Nat.{◌+◌, ◌-◌, ◌^◌}
use mathlib.Core.Path.{◌≡◌}
use Rattle.image.proofs.fits.Given as goal

abbrev pub invariant-loop-k : goal.invariant-loop-k
invariant-loop-k l = (ltb l.most (2 ^ l.bits) ≡ fits_in (replicate (l.count - l.k) l.bits) l.image (l.from + l.k))
