-- `chip::start_of` meets its contract. Assumes nothing.
use mathlib.Core.Path.{ap, ◌∙◌}
use Prim.Native.Nat.{ℕ}
use Rattle.rules.specs.Minor.{START}
use Rattle.rules.specs.Words.{has}
use Rattle.chip.specs.Seen.{start_in}
use Rattle.chip.proofs.start_of.Goals as goal

pub returns : goal.returns
returns c = (unfold start_in in c.has_bit.ensures ∙ ap (λ (n : ℕ). has n START) c.get.ensures)
