-- `controllers::update_irq` meets its contract: the act of the rules, with what 'relevelled' ensures. Assumes nothing.
use Rattle.controllers.proofs.DeviceLaws.{relevel-does, same-levels}
use Rattle.act.specs.Parts.{whole}
use Rattle.std.proofs.Common.{refl, rules}
use Rattle.controllers.proofs.update_irq.Goals as goal

pub returns : goal.returns
returns c x p =
    let made = c.relevelled-l.ensures in
    let k = c.args.k in
    record {
      does = relevel-does (whole k x) p.sound made.0 made.1 (search rules);
      levels = same-levels k _ p.sound.three _ _ _ refl refl refl made.0;
    }
