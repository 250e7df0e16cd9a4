-- `major_end::gather` meets its contract. The loop's invariant: what is left to gather, behind the i bytes
use Rattle.std.proofs.Common.{◌≡◌, ℕ, ◌+◌, ◌-◌, List, [], length, take}
use Rattle.rules.specs.Carry.{Lent}
use Rattle.rules.specs.Act.{Act, ◌>>=◌}
use Rattle.rules.specs.Minor.{gather}
use Rattle.rules.specs.State.{Device}
use Rattle.act.specs.Worlds.{came_to, on}
use Rattle.major_end.proofs.gather.Given as goal

abbrev pub invariant-loop-i : goal.invariant-loop-i
invariant-loop-i l =
    (length l.next ≡ 32)
    × ((lent : Lent) (d : Device) (j t m : List ℕ) (k : List ℕ → Act (Unit {0})) → on l.base lent (gather (32 - l.i) (l.from + l.i) (take l.i l.next) >>= k) (came_to l.s d l.window j t m) ≡ on l.base lent (gather 32 l.from [] >>= k) (came_to l.s d l.window j t m))
