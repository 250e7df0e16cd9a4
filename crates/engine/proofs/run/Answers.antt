-- `engine::run` meets its contract, from that of its parts. Assumes nothing.
use Rattle.act.proofs.Whole.{whole-told}
use Rattle.act.specs.Parts.{arrays_of, working}
use Rattle.rules.proofs.Each.{typed_proper}
use Rattle.rules.specs.Calls.{run}
use mathlib.Core.Path.{refl}
use Rattle.engine.proofs.run.Goals as goal

pub returns : goal.returns
returns c =
    let a = c.args in (
      whole-told (run a.time a.pace) a.base a.d (working (arrays_of a.d) _ _ _ _) _ _ _ _ _ _ a.used _ c.run_in-r.result c.core_of.ensures
          (c.run_in-r.ensures (arrays_of a.d) (rw c.core_of.ensures (typed_proper a.d c.well_formed.0))) refl,
      λ n e. refl,
    )
