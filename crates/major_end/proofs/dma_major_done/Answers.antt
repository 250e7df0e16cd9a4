-- `major_end::dma_major_done` meets its contract: the descriptor is read, then one function after another does its part of the tree. Assumes nothing.
use Rattle.std.proofs.Common.{◌∙◌, arith}
use Rattle.rules.specs.Minor.{major_end}
use Rattle.act.proofs.Laws.{then, described}
use Rattle.major_end.proofs.dma_major_done.Goals as goal

pub returns : goal.returns
unfolding major_end
returns c lent d =
    let a = c.args in
    let counted = c.count_major-s1.ensures a.base lent d a.window.now _ _ in
    let reloaded = c.reload-s2.ensures lent d _ in
    let flagged = c.flags-s3.ensures a.base lent d a.window.now _ _ _ in
    let linked = c.link_to.ensures a.base lent d a.window.now _ in
    then a.base lent _ _ _ (then a.base lent _ _ _ (then a.base lent _ _ _ linked flagged) reloaded) counted
    ∙ rw c.csr_has.ensures (described a.base lent _ d _ _ _ _ a.ch _ c.read_tcd-t.ensures.0 (omega (arith, c.read_tcd-t.ensures.1, c.requires)))
