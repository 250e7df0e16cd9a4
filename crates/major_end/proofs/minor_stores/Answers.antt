-- `major_end::minor_stores` meets its contract: four stores, one after another. Assumes nothing.
use Rattle.rules.specs.Minor.{minor_stores}
use Rattle.act.proofs.Laws.{then}
use Rattle.major_end.proofs.minor_stores.Goals as goal

pub returns : goal.returns
unfolding minor_stores
returns c base lent d w m =
    let e1 = c.store_table-s1.ensures base lent d w m in
    let e2 = c.store_table-s2.ensures base lent d w m in
    let e3 = c.store_table-s3.ensures base lent d w m in
    let e4 = c.store_table.ensures base lent d w m in
    then base lent _ _ _ (then base lent _ _ _ (then base lent _ _ _ e4 e3) e2) e1
