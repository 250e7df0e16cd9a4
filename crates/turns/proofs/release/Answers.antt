-- `turns::release` meets its contract. Assumes nothing.
use Rattle.turns.proofs.Freeing.{release_again, release_end}
use borrow.Author.Rules.{rules}
use mathlib.Core.Path.{refl}
use Rattle.turns.proofs.release.Goals as goal

pub loop-ch-init : goal.loop-ch-init
loop-ch-init c = λ base lent mem used free d h. refl

pub loop-ch-preserved : goal.loop-ch-preserved
loop-ch-preserved c =
    let l = c.loop-ch in
    λ base lent mem used free d h. release_again base lent mem used free c.args.time c.args.erq d h _ _ l.ch l.m (l.invariant base lent mem used free d h) c.loop-ch-test.true _ _ c.release_one-m.ensures.0 c.release_one-m.ensures.1

pub returns : goal.returns
returns c base lent mem used free d h =
    let l = c.loop-ch in
    release_end base lent mem used free c.args.time c.args.erq d h _ _ l.ch l.m (l.invariant base lent mem used free d h) (search rules)
