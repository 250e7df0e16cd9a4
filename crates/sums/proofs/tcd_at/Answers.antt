-- `sums::tcd_at` meets its contract, field by field. Assumes nothing.
use Rattle.sums.proofs.Laws.{tcd_read}
use Rattle.sums.proofs.tcd_at.Goals as goal

pub returns : goal.returns
returns c =
    tcd_read _ _ c.get.ensures c.get-2.ensures c.get-3.ensures c.get-4.ensures c.get-5.ensures c.get-6.ensures c.get-7.ensures c.get-8.ensures c.get-9.ensures c.get-10.ensures c.get-11.ensures
