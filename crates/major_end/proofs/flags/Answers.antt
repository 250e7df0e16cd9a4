-- `major_end::flags` meets its contract: one change after the other. Assumes nothing.
use Rattle.rules.specs.Minor.{flags}
use Rattle.act.proofs.Laws.{then}
use Rattle.major_end.proofs.flags.Goals as goal

pub returns : goal.returns
unfolding flags
returns c base lent d w j t m =
    rw (← c.csr_has.ensures, ← c.csr_has-2.ensures)
    (then base lent _ _ _ (c.lower_erq.ensures base lent d w j t m) (c.raise_int-s1.ensures base lent d w j t m))
