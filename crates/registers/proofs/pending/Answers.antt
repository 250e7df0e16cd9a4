-- `registers::pending` meets its contract, from that of its parts. Assumes nothing.
use Rattle.act.proofs.Whole.{whole-told}
use Rattle.act.specs.Parts.{arrays_of, counted}
use Rattle.rules.proofs.Each.{typed_proper}
use Rattle.rules.specs.Calls.{pending}
use mathlib.Core.Path.{refl}
use Rattle.registers.proofs.pending.Goals as goal

pub returns : goal.returns
returns c =
    let a = c.args in (
      λ base w staging.
          whole-told (pending a.channel a.count) base a.d (counted (arrays_of a.d) _) w staging _ w staging _ a.used _ c.pending_in-r.result c.core_of.ensures
          (c.pending_in-r.ensures (arrays_of a.d) (rw c.core_of.ensures (typed_proper a.d c.well_formed.0)) base w staging) refl,
      λ n v. refl,
    )
