-- `turns::turn` meets its contract. Assumes nothing.
use mathlib.Core.Path.{refl}
use Rattle.turns.proofs.Turning.{turn_deferred, turn_served}
use borrow.Author.Rules.{rules}
use Rattle.turns.proofs.turn.Goals as goal

pub returns-then-clock-busy : goal.returns-then-clock-busy
returns-then-clock-busy c =
    let a = c.args in
    turn_deferred a.base _ a.clock.now a.clock.pace a.ch a.t _ _ _ _ _ _ _ c.lose_bit-kick.ensures (search rules) c.if-clock-busy.true _ c.gain_bit-deferred.ensures (search rules) _ refl

pub returns : goal.returns
returns c =
    let a = c.args in
    turn_served a.base _ a.clock.now a.clock.pace a.ch a.t _ _ _ _ _ _ _ c.lose_bit-kick.ensures (search rules) c.if-clock-busy.false _ refl _ _ _ _ _ _ _ c.serve.ensures
