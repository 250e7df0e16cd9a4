-- `controllers::loudest_above` meets its contract. The loop's invariant: what was found, over what is found in the sources that are left,
-- is what is found in all. The measure is the mask that is left. Assumes nothing.
use Rattle.std.proofs.Common.{arith}
use Rattle.controllers.proofs.AboveLaws.{over_none, above-turn, above_end, found_at}
use Rattle.controllers.proofs.LevelLaws.{highest_set, walk_less}
use Rattle.controllers.specs.Levels.{found}
use Rattle.controllers.proofs.loudest_above.Goals as goal

pub loop-p-init : goal.loop-p-init
loop-p-init c = (c.ranges.m.fits, over_none _ _ _ _)

pub loop-p-smaller : goal.loop-p-smaller
loop-p-smaller c =
    let l = c.loop-p in
    walk_less l.p _ (highest_set l.p (omega arith) l.invariant.0 c.highest_bit-s.ensures.0) c.lose_bit-p.ensures

pub loop-p-preserved : goal.loop-p-preserved
loop-p-preserved c =
    let l = c.loop-p in
    let less = walk_less l.p _ (highest_set l.p (omega arith) l.invariant.0 c.highest_bit-s.ensures.0) c.lose_bit-p.ensures in
    (omega arith, above-turn _ _ l.p (omega arith) l.invariant.0 _ _ _ _ _ c.highest_bit-s.ensures.0 c.lose_bit-p.ensures c.louder-best.ensures l.invariant.1)

pub returns : goal.returns
returns c =
    let e = above_end _ _ _ _ c.loop-p.p c.loop-p-test.false c.loop-p.invariant.1 in
    (e, found_at _ _ c.args.m (found c.loop-p.best) e)
