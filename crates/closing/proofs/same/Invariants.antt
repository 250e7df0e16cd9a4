-- `closing::same` meets its contract: where no XOR so far was other than 0, all are the same if those to come are. Assumes nothing.
use mathlib.Core.List.{map}
use mathlib.Core.Path.{◌≡◌}
use lib.ListN.{length}
use Rattle.std.specs.Iterator.Adapters.{zip_first, zip_second}
use Rattle.std.specs.Slice.Iter.{iter_rest}
use Rattle.closing.proofs.same.Given as goal

abbrev pub invariant-loop-b : goal.invariant-loop-b
invariant-loop-b g l =
    let n = g.T.Element.number in
    let bs = iter_rest (zip_first l.b-iterator) in
    let cs = iter_rest (zip_second l.b-iterator) in
    (length bs ≡ length cs) × (n l.other ≡ 0 → map n bs ≡ map n cs → map n l.before ≡ map n l.after)
