-- `major_end::link_to` meets its contract, by whether the link is on and to another channel. Assumes nothing.
use Rattle.std.proofs.Common.{eq-eqb, ne_eqb}
use Rattle.rules.specs.Minor.{link_to}
use Rattle.act.proofs.Laws.{passed, taken}
use Rattle.major_end.proofs.link_to.Goals as goal

pub returns-then-not-on : goal.returns-then-not-on
unfolding link_to
returns-then-not-on c base lent d w m = passed base lent _ _ _ (rw c.if-not-on.true)

pub returns-then-to-ch : goal.returns-then-to-ch
unfolding link_to
returns-then-to-ch c base lent d w m =
    let a = c.args in
    passed base lent _ _ _ (rw (c.if-not-on.false, eq-eqb a.to a.ch c.if-to-ch.true))

pub returns : goal.returns
unfolding link_to
returns c base lent d w m =
    let a = c.args in
    taken base lent _ _ _ (rw (c.if-not-on.false, ne_eqb a.to a.ch c.if-to-ch.false))
    (c.dma_start_linked.ensures base lent d w m)
