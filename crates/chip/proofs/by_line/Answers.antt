-- `chip::by_line` meets its contract. Assumes nothing.
use Rattle.act.proofs.Laws.{made_err}
use Rattle.chip.proofs.Turning.{line_went, line-off}
use Rattle.chip.proofs.by_line.Goals as goal

pub returns-in_err-pass : goal.returns-in_err-pass
returns-in_err-pass c p =
    let a = c.args in
    rw (made_err c.from_residual.result c.from_residual.ensures)
    (line-off a.base _ a.clock.now a.clock.pace a.t _ _ _ _ _ _ _ _ _ _ c.by_pass.ensures _ c.nbytes_of-bytes.ensures.0 c.nbytes_of-bytes.ensures.2 _ c.in_err-pass.was p)

pub returns : goal.returns
returns c p =
    let a = c.args in
    line_went a.base _ a.clock.now a.clock.pace a.t _ _ _ _ _ _ _ _ _ _ c.by_pass.ensures _ c.nbytes_of-bytes.ensures.0 c.nbytes_of-bytes.ensures.2 _ _ _ c.in_ok-pass.was (rw c.moved-sum.ensures at c.paced.ensures) p
