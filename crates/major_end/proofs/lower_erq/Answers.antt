-- `major_end::lower_erq` meets its contract: a refused step stays, and ERQ loses its bit where `on`. Assumes nothing.
use Rattle.std.proofs.Common.{refl, rules}
use Rattle.act.proofs.Laws.{stays_refused, skips, taken, scalar_changed}
use Rattle.major_end.proofs.lower_erq.Goals as goal

pub returns-in_err-c : goal.returns-in_err-c
returns-in_err-c c base lent d w j t m = stays_refused base lent _ c.from_residual.result d w j t m c.from_residual.ensures c.in_err-c.was

pub returns : goal.returns
returns c base lent d w j t m =
    taken base lent _ _ _ c.if-not-on.false (scalar_changed base lent d _ w j t m c.in_ok-c.was _ 1 _ refl c.lose_bit-c.ensures (search rules))

pub returns-then-not-on : goal.returns-then-not-on
returns-then-not-on c base lent d w j t m = skips base lent d _ w j t m c.in_ok-c.was _ _ c.if-not-on.true
