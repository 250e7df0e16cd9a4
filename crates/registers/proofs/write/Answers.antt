-- `registers::write` meets its contract, from that of its parts. Assumes nothing.
use Rattle.act.proofs.Whole.{whole-told}
use Rattle.act.specs.Parts.{arrays_of, tabled, ordered}
use Rattle.rules.proofs.Each.{typed_proper}
use Rattle.rules.specs.Calls.{write}
use mathlib.Core.Path.{refl}
use Rattle.registers.proofs.write.Goals as goal

pub returns : goal.returns
returns c =
    let a = c.args in
    let called = c.write_in-r.ensures in (
      λ base w staging.
          whole-told (write a.address a.size a.value) base a.d (ordered (tabled (arrays_of a.d) _) _ a.d.chip) w staging _ w staging _ a.used _ c.write_in-r.result c.core_of.ensures
          (called.0 (arrays_of a.d) (rw c.core_of.ensures (typed_proper a.d c.well_formed.0)) base w staging) refl,
      called.1,
    )
