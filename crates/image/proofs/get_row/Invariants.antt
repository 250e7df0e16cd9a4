-- `image::get_row` meets its contract. The loop's invariant: the numbers behind those that are left are there. Assumes nothing.
use Rattle.image.specs.Image.{numbers_in}
use Rattle.rules.specs.Bytes.{splice}
use lib.ListN.{length}
use Prim.Native.Nat.{◌+◌, ◌-◌}
use mathlib.Core.Path.{◌≡◌}
use Rattle.image.proofs.get_row.Given as goal

abbrev pub invariant-loop-k : goal.invariant-loop-k
invariant-loop-k g l =
    (g.T.Held.values l.into ≡ splice (g.T.Held.values l.initial.into) l.k (numbers_in g.T.Held.bits l.image (l.from + l.k) (length l.initial.into - l.k))) × (length l.into ≡ length l.initial.into)
