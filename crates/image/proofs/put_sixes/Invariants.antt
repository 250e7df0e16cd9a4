-- `image::put_sixes` meets its contract. The loop's invariant: the numbers behind those that are left are there. Assumes nothing.
use Rattle.image.proofs.Laws.{sixes}
use Rattle.image.specs.Image.{laid}
use Rattle.rules.specs.Bytes.{splice}
use lib.ListN.{length, drop}
use Prim.Native.Nat.{◌+◌, ◌*◌}
use mathlib.Core.Path.{◌≡◌}
use Rattle.image.proofs.put_sixes.Given as goal

abbrev pub invariant-loop-k : goal.invariant-loop-k
invariant-loop-k l =
    (l.image ≡ splice l.initial.image (2064 + 8 * (l.from + l.k)) (laid (drop l.k (sixes l.v)))) × (length l.image ≡ length l.initial.image)
