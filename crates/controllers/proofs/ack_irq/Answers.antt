-- `controllers::ack_irq` meets its contract: the act of the rules, with what the callees ensure of each controller. Assumes nothing.
use Rattle.controllers.proofs.DeviceLaws.{acknowledge-held}
use Rattle.act.specs.Parts.{taking, whole}
use Rattle.controllers.proofs.ack_irq.Goals as goal

pub returns : goal.returns
returns c x p =
    let k = c.args.k in
    acknowledge-held k (taking x _) p.sound _ c.heard_from-a.ensures.0 c.heard_from-b.ensures.0 c.heard_from-c.ensures.0 _ _ (c.hear.ensures (whole k x))
