-- `controllers::waiting` meets its contract. The loop's invariant: from here on the channels that are left give what all give from the
-- start. Assumes nothing.
use Rattle.controllers.proofs.InputLaws.{waiting-turn, waiting_end}
use Rattle.std.proofs.Common.{refl, arith}
use Rattle.controllers.proofs.waiting.Goals as goal

pub loop-i-init : goal.loop-i-init
loop-i-init c = refl

pub loop-i-preserved : goal.loop-i-preserved
loop-i-preserved c = waiting-turn _ _ c.loop-i.m _ (omega arith) c.waits-m.ensures c.loop-i.invariant

pub returns : goal.returns
returns c = waiting_end _ c.loop-i.i _ _ (omega arith) c.loop-i.invariant
