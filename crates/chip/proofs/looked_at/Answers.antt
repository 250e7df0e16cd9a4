-- `chip::looked_at` meets its contract. Assumes nothing.
use mathlib.Core.Bool.{Bool}
use mathlib.Core.Path.{refl, subst}
use Rattle.chip.specs.Seen.{Marks}
use Rattle.chip.proofs.looked_at.Goals as goal

pub returns : goal.returns
returns c =
    let a = c.args in
    record {
      starts = c.with_start.ensures;
      waits = subst (λ (b : Bool). Marks a.k.waits a.ch b c.with_bit.result) c.waits.ensures c.with_bit.ensures;
      free = subst (λ (b : Bool). Marks a.k.free a.ch b c.with_bit-2.result) c.free.ensures c.with_bit-2.ensures;
      past = refl;
    }
