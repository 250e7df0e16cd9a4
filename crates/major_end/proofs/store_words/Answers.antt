-- `major_end::store_words` meets its contract: four stores, one after another. Assumes nothing.
use Rattle.rules.specs.Minor.{store_words}
use Rattle.act.proofs.Laws.{then}
use Rattle.major_end.proofs.store_words.Goals as goal

pub returns : goal.returns
unfolding store_words
returns c base lent d w m =
    let e1 = c.store_table-s1.ensures base lent d w m in
    let e2 = c.store_table-s2.ensures base lent d w m in
    let e3 = c.store_table-s3.ensures base lent d w m in
    let e4 = c.store_table.ensures base lent d w m in
    then base lent _ _ _ (then base lent _ _ _ (then base lent _ _ _ e4 e3) e2) e1
