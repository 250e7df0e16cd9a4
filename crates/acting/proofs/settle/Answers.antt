-- `acting::settle` meets its contract, by what the step is. Assumes nothing.
use Rattle.acting.proofs.Laws.{settled_on, settled_off}
use Rattle.acting.proofs.settle.Goals as goal

pub returns-in-Ok : goal.returns-in-Ok
returns-in-Ok c x base lent act d w j₀ w' j used p f goes =
    settled_on base lent act d w j₀ w' j used p f c.args.k x c.in-Ok.is c.update_irq.ensures goes

pub returns-in-Err : goal.returns-in-Err
returns-in-Err c x base lent act d w j₀ w' j used p f goes =
    settled_off base lent act d w j₀ w' j used p f c.args.k x c.in-Err.is goes
