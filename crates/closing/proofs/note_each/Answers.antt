-- `closing::note_each` meets its contract: what is left to note from here is what was to note from the start. Assumes nothing.
use mathlib.Core.Path.{◌∙◌}
use native.Mathlib.Omega.{arith}
use Rattle.closing.proofs.Laws.{turns_start, turn, turn_full, turns-done}
use Rattle.closing.proofs.note_each.Goals as goal

pub loop-i-init : goal.loop-i-init
loop-i-init g c = turns_start _ _ _ _ _

pub returns-in_err-end : goal.returns-in_err-end
returns-in_err-end g c =
    let converted = g.met.T.Element.converted in
    rw c.from_residual.ensures
    (turn_full _ _ _ _ _ _ c.requires.alike (omega arith) c.index-before-i.is c.index-after-i.is (converted _ _ c.into.ensures) (converted _ _ c.into-in-loop-i.ensures) c.note_one.ensures c.in_err-end.was
    ∙ c.loop-i.invariant)

pub loop-i-preserved : goal.loop-i-preserved
loop-i-preserved g c =
    let converted = g.met.T.Element.converted in
    turn _ _ _ _ _ _ c.requires.alike (omega arith) c.index-before-i.is c.index-after-i.is (converted _ _ c.into.ensures) (converted _ _ c.into-in-loop-i.ensures) c.note_one.ensures c.in_ok-end.was
    ∙ c.loop-i.invariant

pub returns : goal.returns
returns g c = turns-done _ _ _ _ _ _ (omega arith) ∙ c.loop-i.invariant
