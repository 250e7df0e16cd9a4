-- `chip::renewed` meets its contract. Assumes nothing.
use mathlib.Core.Path.{refl}
use Rattle.chip.proofs.Seeing.{renews}
use Rattle.chip.proofs.renewed.Goals as goal

pub returns : goal.returns
returns c =
    let a = c.args in
    renews a.ch a.minor a.major a.time a.went a.k _ _ _ _ _ c.looked_at-own.ensures c.with_start-starts.ensures c.with_start.ensures refl refl c.passed_over.ensures
