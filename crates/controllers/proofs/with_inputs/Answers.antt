-- `controllers::with_inputs` meets its contract: the act of the rules, with what the callees ensure of each controller and of the requests. Assumes nothing.
use Rattle.controllers.proofs.InputLaws.{inputs-held, inputs_keep, requesting-answers}
use Rattle.act.specs.Parts.{counted}
use Rattle.std.proofs.Common.{refl}
use Rattle.controllers.proofs.with_inputs.Goals as goal

pub returns : goal.returns
returns c x p =
    let k = c.args.k in
    let f = c.ranges in
    record {
      does = inputs-held _ _ _ _ f.standing.fits f.l0.fits f.l1.fits f.l2.fits k (counted x _) p.sound _
          c.given-a.ensures c.given-b.ensures c.given-c.ensures (requesting-answers _ c.waiting.ensures);
      levels = inputs_keep k _ _ _ _ p.sound.three c.given-a.ensures c.given-b.ensures c.given-c.ensures refl;
    }
