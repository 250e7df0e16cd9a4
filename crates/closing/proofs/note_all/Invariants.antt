-- `closing::note_all` meets its contract: what is left to note from here is what was to note from the start. Assumes nothing.
use Rattle.std.specs.Prelude.{Some}
use mathlib.Core.List.{map}
use mathlib.Core.Path.{◌≡◌}
use Prim.Native.Nat.{◌+◌, ◌*◌}
use lib.ListN.{drop}
use Rattle.rules.specs.Carry.{changed}
use Rattle.closing.specs.Closes.{noting, add_all}
use Rattle.closing.proofs.note_all.Given as goal

abbrev pub invariant-loop-k : goal.invariant-loop-k
invariant-loop-k g l =
    let n = g.T.Element.number in
    add_all (changed (l.first + l.k * 16) (map n (drop (l.k * 16) l.before)) (map n (drop (l.k * 16) l.after))) (noting (Some l.at) l.journal)
    ≡ add_all (changed l.first (map n l.before) (map n l.after)) (noting (Some l.initial.at) l.initial.journal)
