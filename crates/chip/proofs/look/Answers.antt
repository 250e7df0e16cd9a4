-- `chip::look` meets its contract. The loop's invariant: the channels below have been looked at. Assumes nothing.
use mathlib.Core.Path.{refl, ◌∙◌}
use Rattle.chip.proofs.Seeing.{sees_none, sees_more, sees_all}
use Rattle.chip.proofs.look.Goals as goal

pub loop-ch-init : goal.loop-ch-init
loop-ch-init c = (sees_none _ _ _ _ _, refl)

pub loop-ch-preserved : goal.loop-ch-preserved
loop-ch-preserved c =
    let l = c.loop-ch in
    (sees_more l.invariant.0 c.looked_at-k.ensures, c.looked_at-k.ensures.past ∙ l.invariant.1)

pub returns : goal.returns
returns c =
    let l = c.loop-ch in
    (sees_all l.invariant.0 c.loop-ch-test.false, l.invariant.1)
