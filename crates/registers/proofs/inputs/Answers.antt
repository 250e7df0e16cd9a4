-- `registers::inputs` meets its contract, from that of its parts. Assumes nothing.
use Rattle.act.proofs.Whole.{whole-told}
use Rattle.act.specs.Parts.{arrays_of}
use Rattle.rules.proofs.Each.{typed_proper}
use Rattle.rules.specs.Calls.{inputs}
use mathlib.Core.Path.{refl}
use Rattle.registers.proofs.inputs.Goals as goal

pub returns : goal.returns
returns c =
    let a = c.args in (
      λ base w staging.
          whole-told (inputs a.standing a.lines0 a.lines1 a.lines2) base a.d (arrays_of a.d) w staging _ w staging _ a.used _ c.inputs_in-r.result c.core_of.ensures
          (c.inputs_in-r.ensures (arrays_of a.d) (rw c.core_of.ensures (typed_proper a.d c.well_formed.0)) base w staging) refl,
      λ n v. refl,
    )
