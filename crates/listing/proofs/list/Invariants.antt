-- `listing::list` meets its contract. The loop's invariant: the lines of the records passed are there, and as many marks as are still to come are to come. Assumes nothing.
use Rattle.listing.specs.Lines.{text, marked_first}
use Rattle.rules.specs.Bytes.{splice}
use lib.ListN.{length, drop}
use Prim.Native.Nat.{◌+◌, ◌-◌, ◌*◌}
use mathlib.Core.Path.{◌≡◌}
use Rattle.listing.proofs.list.Given as goal

abbrev pub invariant-loop-r : goal.invariant-loop-r
invariant-loop-r l =
    (length l.out ≡ length l.initial.out) × (l.out ≡ splice l.initial.out 0 (text l.r l.journal)) × (l.r + marked_first (l.count - l.r) (drop (l.r * 16) l.journal) ≡ marked_first l.count l.journal)
