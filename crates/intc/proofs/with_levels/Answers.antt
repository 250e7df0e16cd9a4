-- `intc::with_levels` meets its contract. The loop's invariant: the bytes from `i` on are laid down, and the rest of the value is what
-- stands above them. Assumes nothing.
use Rattle.intc.proofs.WriteLaws.{levels_start, levels-turn}
use native.Mathlib.Omega.{arith}
use Rattle.rules.specs.View.{view_controller}
use Rattle.intc.proofs.with_levels.Goals as goal

pub loop-i-init : goal.loop-i-init
loop-i-init c = levels_start (view_controller c.args.k) c.args.s c.args.v c.args.size

pub loop-i-preserved : goal.loop-i-preserved
loop-i-preserved c =
    let l = c.loop-i in
    levels-turn (view_controller c.args.k) c.args.s _ _ l.i c.loop-i-test.true (omega arith) l.invariant.0 l.invariant.1 c.with_level-e.ensures
