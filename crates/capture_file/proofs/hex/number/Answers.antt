-- `capture_file::hex::number` meets its contract. Assumes nothing.
use Rattle.std.proofs.Common.{sym, ◌∙◌}
use Rattle.capture_file.proofs.Laws.{spelled_on, spelled_end}
use Rattle.capture_file.proofs.hex.number.Goals as goal

pub loop-k-preserved : goal.loop-k-preserved
loop-k-preserved c = spelled_on _ _ _ _ c.loop-k-test.true c.digit.ensures.0 ∙ c.loop-k.invariant

pub returns : goal.returns
returns c = sym (spelled_end _ _ _ _ c.loop-k-test.false) ∙ c.loop-k.invariant
