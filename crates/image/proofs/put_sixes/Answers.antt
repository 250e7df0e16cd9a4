-- `image::put_sixes` meets its contract. The loop's invariant: the numbers behind those that are left are there. Assumes nothing.
use Rattle.image.proofs.Laws.{sixes_none, sixes_turn}
use mathlib.Core.Path.{refl}
use native.Mathlib.Omega.{arith}
use Rattle.image.proofs.put_sixes.Goals as goal

pub loop-k-init : goal.loop-k-init
loop-k-init c = (sixes_none _ _ c.args.v.now, refl)

pub loop-k-preserved : goal.loop-k-preserved
loop-k-preserved c =
    let put = c.put in
    (sixes_turn _ _ c.args.v.now c.loop-k.k _ _ _ _ (omega arith) (omega arith) c.loop-k.invariant.0 c.from.ensures put.ensures, omega (arith, put.auto.s))
