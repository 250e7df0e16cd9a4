-- `listing::put_digits` meets its contract. The loop's invariant: the digits of the bytes behind those that are left are there. Assumes nothing.
use Rattle.listing.specs.Lines.{digits}
use Rattle.rules.specs.Bytes.{part, splice}
use lib.ListN.{length}
use Prim.Native.Nat.{◌+◌, ◌-◌, ◌*◌}
use mathlib.Core.Path.{◌≡◌}
use Rattle.listing.proofs.put_digits.Given as goal

abbrev pub invariant-loop-k : goal.invariant-loop-k
invariant-loop-k l =
    (l.out ≡ splice l.initial.out (l.to + 2 * l.k) (digits (part l.journal (l.at + l.k) (16 - l.k)))) × (length l.out ≡ length l.initial.out)
