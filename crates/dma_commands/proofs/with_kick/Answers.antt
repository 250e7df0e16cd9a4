-- `dma_commands::with_kick` meets its contract. A refused step stays, and one that goes on has another KICK. Assumes nothing.
use Rattle.act.proofs.Laws.{stays_refused, skips, taken, scalar_changed}
use lib.Bits.{bit_or, or_lt}
use mathlib.Core.Path.{refl}
use borrow.Author.Rules.{rules}
use Rattle.dma_commands.proofs.with_kick.Goals as goal

pub returns-in_err-c : goal.returns-in_err-c
returns-in_err-c c base lent d w j t m = stays_refused base lent _ c.from_residual.result d w j t m c.from_residual.ensures c.in_err-c.was

pub returns-then-on : goal.returns-then-on
returns-then-on c base lent d w j t m =
    let mask = c.args.m in
    taken base lent _ _ _ c.if-on.true
    (scalar_changed base lent d _ w j t m c.in_ok-c.was (λ k. bit_or k mask) 5 _ refl refl (or_lt 64 c.in_ok-c.c.scalars.kick mask (search rules) (search rules)))

pub returns-else-on : goal.returns-else-on
returns-else-on c base lent d w j t m = skips base lent d _ w j t m c.in_ok-c.was _ _ c.if-on.false
