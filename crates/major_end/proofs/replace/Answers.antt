-- `major_end::replace` meets its contract: the bytes, read as four words, are stored, and START in them is asked. Assumes nothing.
use Rattle.std.proofs.Common.{◌∙◌}
use Rattle.rules.specs.Minor.{replaced, store_whole, tcd_of}
use Rattle.act.proofs.Laws.{then}
use Rattle.major_end.proofs.replace.Goals as goal

pub returns : goal.returns
unfolding replaced store_whole tcd_of
returns c base lent d w m =
    then base lent _ _ _ (c.raise_kick.ensures base lent d w _ _ m) (c.store_words-s1.ensures base lent d w m)
    ∙ rw (c.get-w0.ensures, c.get-w1.ensures, c.get-w2.ensures, c.get-w3.ensures, c.csr_has-on.ensures, c.get.ensures)
