-- `judge::on_all` meets its contract. Assumes nothing.
use Rattle.std.proofs.Common.{sym, ◌∙◌}
use Rattle.judge.proofs.Cases.{all_turn, all_end}
use Rattle.judge.proofs.on_all.Goals as goal

pub loop-k-preserved : goal.loop-k-preserved
loop-k-preserved c =
    let a = c.args in
    (all_turn a.p a.sources.now a.origin a.number a.records.now a.count c.loop-k.k c.loop-k.c c.loop-k-test.true c.record_at.ensures c.step-c.ensures.0 ∙ c.loop-k.invariant.0, c.step-c.ensures.1)

pub returns : goal.returns
returns c =
    let a = c.args in
    (sym (all_end a.p a.sources.now a.origin a.number a.records.now a.count c.loop-k.k c.loop-k.c c.loop-k-test.false) ∙ c.loop-k.invariant.0, c.loop-k.invariant.1)
