-- `chip::by_pass` meets its contract. Assumes nothing.
use Rattle.act.proofs.Laws.{made_err}
use Rattle.chip.proofs.Turning.{pass_not, pass_went, pass-off}
use Rattle.chip.proofs.by_pass.Goals as goal

pub returns-in_default : goal.returns-in_default
returns-in_default c = pass_not c.args.base _ c.args.ch c.args.t _ _ _ _ _ _ _ _ _ c.dma_minor.ensures c.in_default.is

pub returns : goal.returns
returns c = pass_went c.args.base _ c.args.ch c.args.t _ _ _ _ _ _ _ _ _ c.dma_minor.ensures _ _ c.in-Some.is c.in_ok-s.was

pub returns-in_err-s : goal.returns-in_err-s
returns-in_err-s c d =
    rw (made_err c.from_residual.result c.from_residual.ensures)
    (pass-off c.args.base _ c.args.ch c.args.t _ _ _ _ _ _ _ _ _ c.dma_minor.ensures _ _ c.in-Some.is c.in_err-s.was d)
