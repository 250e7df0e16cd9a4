-- `acting::done` meets its contract, case by case. Assumes nothing.
use Rattle.acting.proofs.done.Goals as goal

pub returns-in_default : goal.returns-in_default
returns-in_default c = rw (c.in-Ok.is, c.in_default.is) c.refused-in_default.ensures

pub returns-in-Err : goal.returns-in-Err
returns-in-Err c = rw c.in-Err.is c.refused.ensures

pub returns-in-Some : goal.returns-in-Some
returns-in-Some c = rw (c.in-Ok.is, c.in-Some.is)
