-- `registers::acknowledge` meets its contract, from that of its parts. Assumes nothing.
use Rattle.act.proofs.Whole.{whole_heard}
use Rattle.act.specs.Parts.{arrays_of, taking}
use Rattle.rules.proofs.Each.{typed_proper}
use Rattle.rules.specs.Calls.{ack}
use mathlib.Core.Path.{refl}
use Rattle.registers.proofs.acknowledge.Goals as goal

pub returns : goal.returns
returns c =
    let a = c.args in (
      λ base w staging.
          whole_heard (ack a.ipl) base a.d (taking (arrays_of a.d) _) w staging _ w staging _ a.used _ c.acknowledge_in-r.result.done c.core_of.ensures c.acknowledge_in-r.result.heard
          (c.acknowledge_in-r.ensures (arrays_of a.d) (rw c.core_of.ensures (typed_proper a.d c.well_formed.0)) base w staging) refl,
      λ n v. refl,
    )
