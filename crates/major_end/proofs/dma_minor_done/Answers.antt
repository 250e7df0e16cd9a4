-- `major_end::dma_minor_done` meets its contract: the stores and the half way flag, then by whether the new count is 0. Assumes nothing.
use Rattle.std.proofs.Common.{eq-eqb, ne_eqb}
use Rattle.rules.specs.Minor.{minor_end}
use Rattle.act.proofs.Laws.{then, picked, left_out}
use Rattle.major_end.proofs.dma_minor_done.Goals as goal

pub returns-then-n-eq0 : goal.returns-then-n-eq0
unfolding minor_end
returns-then-n-eq0 c lent d =
    let e1 = c.minor_stores-s1.ensures _ lent d _ _ in
    let e2 = c.raise_int-s2.ensures _ lent d _ _ _ _ in
    let e3 = c.dma_major_done.ensures lent d in
    rw (← c.count_of-n.ensures, ← c.recounted-citer.ensures, ← c.started-csr.ensures, ← c.halfway.ensures)
    (then _ lent _ _ _ (then _ lent _ _ _ (picked _ lent _ _ _ _ (eq-eqb _ _ c.if-n-eq0.true) e3) e2) e1)

pub returns : goal.returns
unfolding minor_end
returns c lent d =
    let e1 = c.minor_stores-s1.ensures _ lent d _ _ in
    let e2 = c.raise_int-s2.ensures _ lent d _ _ _ _ in
    let e3 = c.link_to.ensures _ lent d _ _ in
    rw (← c.count_of-n.ensures, ← c.recounted-citer.ensures, ← c.started-csr.ensures, ← c.halfway.ensures, ← c.is_linked.ensures, ← c.link_of.ensures.0)
    (then _ lent _ _ _ (then _ lent _ _ _ (left_out _ lent _ _ _ _ (ne_eqb _ _ c.if-n-eq0.false) e3) e2) e1)
