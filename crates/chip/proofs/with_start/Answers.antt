-- `chip::with_start` meets its contract. Assumes nothing.
use mathlib.Core.Bool.{Bool}
use mathlib.Core.Path.{subst}
use Rattle.chip.specs.Seen.{Marks}
use Rattle.chip.proofs.with_start.Goals as goal

pub returns : goal.returns
returns c = subst (λ (b : Bool). Marks c.args.starts c.args.ch b c.with_bit.result) c.start_of.ensures c.with_bit.ensures
