-- `controllers::hear` meets its contract: one line for each case. Assumes nothing.
use Rattle.controllers.proofs.DeviceLaws.{hear-nothing, hear_source}
use Rattle.rules.specs.With.{with_taken}
use Rattle.std.proofs.Common.{refl}
use Rattle.controllers.proofs.hear.Goals as goal

pub returns-then-loud-eq0 : goal.returns-then-loud-eq0
returns-then-loud-eq0 c d = hear-nothing _ _ _ c.if-loud-eq0.true

pub returns : goal.returns
returns c d = hear_source (with_taken d _) _ _ c.if-loud-eq0.false refl refl
