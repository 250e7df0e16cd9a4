-- `image::put_row` meets its contract. The loop's invariant: the numbers behind those that are left are there. Assumes nothing.
use Rattle.image.proofs.Laws.{row-none, laid-turn}
use mathlib.Core.Path.{refl, ◌∙◌}
use native.Mathlib.Omega.{arith}
use Rattle.image.proofs.put_row.Goals as goal

pub loop-k-init : goal.loop-k-init
loop-k-init g c = (row-none _ _ _ (g.met.T.Held.values_long c.args.v.now), refl)

pub loop-k-preserved : goal.loop-k-preserved
loop-k-preserved g c =
    let put = c.put in
    let long = g.met.T.Held.values_long c.args.v.now in
    let one = c.whole.ensures ∙ g.met.T.Held.values_at c.args.v.now _ _ (omega arith) c.index-v-k.is in
    (laid-turn _ _ (g.T.Held.values c.args.v.now) c.loop-k.k _ _ _ _ (omega arith) (omega (arith, long)) c.loop-k.invariant.0 one put.ensures, omega (arith, put.auto.s))
