-- `closing::same` meets its contract: where no XOR so far was other than 0, all are the same if those to come are. Assumes nothing.
use mathlib.Core.Path.{sym, ap, ◌∙◌}
use borrow.Author.Tests.{eqb-true}
use native.Mathlib.Omega.{arith}
use lib.ListN.{length}
use Rattle.std.proofs.lemmas.Slice.Zip.{either_empty_from_Zip}
use Rattle.closing.proofs.Laws.{same_more, same_end}
use Rattle.closing.proofs.same.Goals as goal

pub loop-b-preserved : goal.loop-b-preserved
loop-b-preserved g c =
    let s = c.in-Some.ensures.steps in
    let laws = g.met.T.Element in (
      omega (arith, ap length s.0, ap length s.1, c.loop-b.invariant.0),
      same_more g.T.Element.number s.0 s.1 (laws.xored _ _ _ c.bitxor.ensures) (laws.ored _ _ _ c.bitor-other.ensures) c.loop-b.invariant.1,
    )

pub returns : goal.returns
returns g c e =
    let none = sym (g.met.T.Element.converted _ _ c.into-number.ensures) ∙ eqb-true _ 0 e in
    c.loop-b.invariant.1 none (same_end _ _ _ c.loop-b.invariant.0 (either_empty_from_Zip c.loop-b.b-iterator c.next.new.self _ c.in-None.is c.next.ensures.steps))
