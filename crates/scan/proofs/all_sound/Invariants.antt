-- `scan::all_sound` meets its contract. The records' invariant: whether those that are left are sound decides. The bytes' invariant: the value is
-- the number that its bytes from the next on spell. Assumes nothing.
use Rattle.scan.proofs.Laws.{left_sound}
use Rattle.scan.specs.Heads.{scanning}
use Rattle.rules.specs.TakeBack.{all_sound}
use Rattle.rules.specs.Bytes.{number, part}
use lib.ListN.{drop}
use mathlib.Core.Path.{◌≡◌}
use Prim.Native.Nat.{◌+◌, ◌-◌}
use Rattle.scan.proofs.all_sound.Given as goal

abbrev pub invariant-bytes : goal.invariant-bytes
invariant-bytes l = number (part l.journal (l.at + 8 + l.k) (8 - l.k)) ≡ number (part l.journal (l.at + 8) 8)

abbrev pub invariant-records : goal.invariant-records
invariant-records l =
    left_sound l.base (scanning l.chip l.window) l.journal l.from l.count l.done ≡ all_sound l.base (scanning l.chip l.window) l.count (drop l.from l.journal)
