-- `controllers::driven` meets its contract. One line for each controller. Assumes nothing.
use Rattle.rules.specs.Lines.{driven}
use Rattle.std.proofs.Common.{◌≡◌, suc, ◌-◌, ◌∙◌, arith}
use Rattle.controllers.proofs.driven.Goals as goal

pub returns-in-0 : goal.returns-in-0
unfolding driven
returns-in-0 c = c.with_bits_from.ensures ∙ rw (c.bits_from.ensures.0, c.in-0.is)

pub returns-in-1 : goal.returns-in-1
unfolding driven
returns-in-1 c = c.with_bits_from-in-1.ensures ∙ rw (c.bits_from-in-1.ensures.0, c.in-1.is)

pub returns-in_default : goal.returns-in_default
unfolding driven
returns-in_default c =
    let e : c.args.c ≡ suc (suc (c.args.c - 2)) = omega arith in
    c.with_bits_from-in_default.ensures ∙ rw (c.any.ensures.0, c.bits_from-in_default.ensures.0, e)
