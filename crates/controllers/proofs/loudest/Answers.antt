-- `controllers::loudest` meets its contract. The loop's invariant: the loudest so far and the loudest of the sources that are left make up
-- the loudest of all. The measure is the mask that is left. Assumes nothing.
use Rattle.controllers.proofs.LevelLaws.{lowest_set, walk_less, loudest-turn, loudest_start, loudest_end}
use Rattle.std.proofs.Common.{arith}
use Rattle.controllers.proofs.loudest.Goals as goal

pub loop-p-init : goal.loop-p-init
loop-p-init c = (c.ranges.m.fits, loudest_start _ _)

pub loop-p-smaller : goal.loop-p-smaller
loop-p-smaller c =
    let l = c.loop-p in
    walk_less l.p _ (lowest_set l.p (omega arith) l.invariant.0 c.lowest_bit-s.ensures.0) c.lose_bit-p.ensures

pub loop-p-preserved : goal.loop-p-preserved
loop-p-preserved c =
    let l = c.loop-p in
    let set = lowest_set l.p (omega arith) l.invariant.0 c.lowest_bit-s.ensures.0 in
    let less = walk_less l.p _ set c.lose_bit-p.ensures in
    (omega arith, loudest-turn _ _ set c.lose_bit-p.ensures _ _ _ c.lowest_bit-s.ensures.1 c.max-best.ensures l.invariant.1)

pub returns : goal.returns
returns c = loudest_end _ _ c.loop-p.p _ c.loop-p-test.false c.loop-p.invariant.1
