-- `turns::paced` meets its contract. Assumes nothing.
use mathlib.Core.Path.{refl}
use native.Mathlib.Omega.{arith}
use Rattle.turns.proofs.Turning.{until_fits, paces}
use borrow.Author.Rules.{rules}
use Rattle.turns.proofs.paced.Goals as goal

pub overflow_mul-until : goal.overflow_mul-until
overflow_mul-until c =
    let fits = until_fits c.args.clock.now c.args.sum c.args.clock.pace c.args.clock.now_bounded c.args.clock.pace_bounded c.requires in
    omega arith

pub overflow_add-until : goal.overflow_add-until
overflow_add-until c =
    let fits = until_fits c.args.clock.now c.args.sum c.args.clock.pace c.args.clock.now_bounded c.args.clock.pace_bounded c.requires in
    omega arith

pub returns : goal.returns
returns c =
    let a = c.args in
    paces a.clock.now a.clock.pace a.sum a.t _ _ _ refl (until_fits a.clock.now a.sum a.clock.pace a.clock.now_bounded a.clock.pace_bounded c.requires) c.min-e.ensures (search rules) _ refl
