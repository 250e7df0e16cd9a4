-- `listing::put_digits` meets its contract. The loop's invariant: the digits of the bytes behind those that are left are there. Assumes nothing.
use Rattle.listing.proofs.Laws.{digits_none, digits-turn, digits_all}
use native.Mathlib.Omega.{arith}
use mathlib.Core.Path.{refl}
use Rattle.listing.proofs.put_digits.Goals as goal

pub loop-k-init : goal.loop-k-init
loop-k-init c = (digits_none _ _ _ _ 16, refl)

pub loop-k-preserved : goal.loop-k-preserved
loop-k-preserved c = let i = c.loop-k.invariant in (digits-turn _ _ _ _ 16 _ _ (omega arith) (omega arith) i.0 c.put_byte.ensures, omega arith)

pub returns : goal.returns
returns c = digits_all _ _ _ _ 16 _ (omega arith) c.loop-k.invariant.0
