-- `chip::ready` meets its contract. Assumes nothing.
use mathlib.Core.Path.{ap}
use Prim.Native.Nat.{ℕ}
use lib.Bits.{bit_and, bit_or}
use Rattle.chip.specs.Seen.{ready_in}
use Rattle.chip.proofs.ready.Goals as goal

pub returns : goal.returns
returns c =
    let a = c.args in
    (unfold ready_in in ap (λ (n : ℕ). bit_and (bit_or a.k.starts (bit_and a.erq (bit_or a.standing a.k.waits))) n) c.without.ensures)
