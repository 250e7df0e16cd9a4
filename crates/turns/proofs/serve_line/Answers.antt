-- `turns::serve_line` meets its contract. Assumes nothing.
use Rattle.act.proofs.Laws.{made_err}
use Rattle.turns.proofs.Turning.{sum_below, line_broken, line_served}
use Rattle.turns.proofs.serve_line.Goals as goal

pub returns-in_err-line : goal.returns-in_err-line
returns-in_err-line c p d =
    let a = c.args in
    rw (made_err c.from_residual.result c.from_residual.ensures)
    (line_broken a.base _ a.clock.now a.clock.pace a.t _ _ _ _ _ _ _ _ _ _ c.line_loop.ensures _ c.in_err-line.was d p)

pub paced-requires : goal.paced-requires
paced-requires c = sum_below c.in_ok-line.was c.line_loop.ensures.small

pub returns : goal.returns
returns c p d =
    let a = c.args in
    line_served a.base _ a.clock.now a.clock.pace a.t _ _ _ _ _ _ _ _ _ _ c.line_loop.ensures _ c.in_ok-line.was _ _ c.paced.ensures d p
