-- `controllers::deliverable` meets its contract. By cases on the ignore setting. Assumes nothing.
use Rattle.rules.specs.Lines.{deliverable}
use Rattle.std.proofs.Common.{refl}
use Rattle.controllers.proofs.deliverable.Goals as goal

pub returns-then-ignore : goal.returns-then-ignore
unfolding deliverable
returns-then-ignore c = rw c.if-ignore.true refl

pub returns : goal.returns
unfolding deliverable
returns c = rw (c.without.ensures, c.if-ignore.false) refl
