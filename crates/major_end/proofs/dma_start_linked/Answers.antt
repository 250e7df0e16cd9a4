-- `major_end::dma_start_linked` meets its contract: a byte is fetched and stored, and KICK gains the bit. Assumes nothing.
use Rattle.std.proofs.Common.{sym, ◌∙◌, arith}
use Rattle.rules.specs.Act.{when}
use Rattle.rules.specs.Minor.{link}
use Rattle.act.proofs.Laws.{then, fetched}
use Rattle.major_end.proofs.dma_start_linked.Goals as goal

pub returns : goal.returns
unfolding link when
returns c base lent d w m =
    then base lent _ _ _ (c.raise_kick.ensures base lent d w _ _ m) (c.store_table-s1.ensures base lent d w m)
    ∙ rw (c.gain_bit-v.ensures, c.get-b.ensures) (sym (fetched base lent _ d w _ _ m _ _ _ (omega arith)))
