-- `direct::fresh_by` meets its contract. Assumes nothing.
use Rattle.direct.proofs.Laws.{fresh_unknown, fresh_unmoded, fresh-made}
use mathlib.Core.Path.{refl}
use native.Mathlib.Omega.{arith}
use Rattle.direct.proofs.fresh_by.Goals as goal

pub returns-then-ignore_masks-gt1 : goal.returns-then-ignore_masks-gt1
returns-then-ignore_masks-gt1 c = (fresh_unknown _ _ _ (omega arith) c.packed.ensures, λ n is. refl)

pub returns-then-mode-gt1 : goal.returns-then-mode-gt1
returns-then-mode-gt1 c = (fresh_unmoded _ _ _ (omega arith) (omega arith) c.packed-then-mode-gt1.ensures, λ n is. refl)

pub returns : goal.returns
returns c = (fresh-made _ _ _ (omega arith) (omega arith) c.fresh.ensures, λ n is. absurd (omega (arith, is)))
