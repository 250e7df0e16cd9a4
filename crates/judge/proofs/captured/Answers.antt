-- `judge::captured` meets its contract. Assumes nothing.
use Rattle.judge.proofs.Judging.{judged-by}
use Rattle.judge.proofs.captured.Goals as goal

pub returns : goal.returns
returns c =
    let a = c.args in
    judged-by a.records.now (λ i. (c.type_inv.records i).fits) a.descriptor.now c.requires a.cr c.tcd_at-t.ensures c.plan_of-p.ensures c.start.ensures.0 c.on_all-c.ensures.0 c.verdict.ensures
