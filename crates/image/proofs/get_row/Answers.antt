-- `image::get_row` meets its contract. The loop's invariant: the numbers behind those that are left are there. Assumes nothing.
use Rattle.image.proofs.Laws.{got_none, got_turn, got_all}
use lib.ListN.{length-set}
use mathlib.Core.Path.{refl, ◌∙◌}
use native.Mathlib.Omega.{arith}
use Rattle.image.proofs.get_row.Goals as goal

pub loop-k-init : goal.loop-k-init
loop-k-init g c = (got_none _ _ _ _ (g.met.T.Held.values_long c.args.into.now), refl)

pub loop-k-preserved : goal.loop-k-preserved
loop-k-preserved g c =
    let long = g.met.T.Held.values_long c.args.into.now in
    (g.met.T.Held.values_set _ _ _ ∙ got_turn _ _ _ _ long c.loop-k.k _ _ _ (omega arith) (omega arith) c.loop-k.invariant.0 c.number_at.ensures, simp length-set (omega arith))

pub returns : goal.returns
returns g c = got_all _ _ _ _ (g.met.T.Held.values_long c.args.into.now) c.loop-k.k _ (omega arith) c.loop-k.invariant.0
