-- `turns::run_dma_inner` meets its contract. Assumes nothing.
use Rattle.turns.proofs.Turning.{turns_stop, turns_refused, turns_again, turns_out}
use borrow.Author.Rules.{rules}
use mathlib.Core.Path.{◌≡◌, refl, ap}
use Prim.Native.Nat.{ℕ, suc, ◌+◌, ◌-◌, ◌<◌, ◌≤◌}
use native.Mathlib.Nat.{sub-zero}
use native.Mathlib.Omega.{arith}
use Rattle.act.proofs.Laws.{made_err}
use Rattle.rules.specs.Carry.{lending}
use Rattle.rules.specs.Run.{run_turns}
use Rattle.turns.proofs.run_dma_inner.Goals as goal

-- the turns that are left are one more than those after this one
next : (k : ℕ) → k < 4096 → run_turns - k ≡ suc (run_turns - (k + 1))
unfolding run_turns
next k h = omega arith

none : (k : ℕ) → 4096 ≤ k → run_turns - k ≤ 0
unfolding run_turns
none k h = omega arith

pub loop-init : goal.loop-init
unfolding run_turns
loop-init c = (refl, refl, refl, λ d. rw sub-zero)

pub returns-then-kick-eq0 : goal.returns-then-kick-eq0
returns-then-kick-eq0 c =
    let a = c.args in
    let l = c.loop in
    turns_stop a.base _ a.clock.now a.clock.pace _ l.s _ _ _ _ _ _ _ l.invariant.3 (run_turns - (l.counter + 1)) (next l.counter c.loop-test.true) c.if-kick-eq0.true

pub returns-in_err-s : goal.returns-in_err-s
returns-in_err-s c d =
    let a = c.args in
    let l = c.loop in
    rw (made_err c.from_residual.result c.from_residual.ensures)
    (turns_refused a.base _ a.clock.now a.clock.pace _ l.s _ _ _ _ _ _ _ l.invariant.3 (run_turns - (l.counter + 1)) (next l.counter c.loop-test.true) c.if-kick-eq0.false _ c.next_channel-ch.ensures.0 _ (ap lending l.invariant.1) _ _ _ _ _ _ _ c.turn.ensures c.in_err-s.was d)

pub loop-preserved : goal.loop-preserved
loop-preserved c =
    let a = c.args in
    let l = c.loop in
    (search rules, search rules, search rules, turns_again a.base _ a.clock.now a.clock.pace _ l.s _ _ _ _ _ _ _ l.invariant.3 (run_turns - (l.counter + 1)) (next l.counter c.loop-test.true) c.if-kick-eq0.false _ c.next_channel-ch.ensures.0 _ (ap lending l.invariant.1) _ _ _ _ _ _ _ c.turn.ensures _ c.in_ok-s.was)

pub returns : goal.returns
returns c =
    let a = c.args in
    let l = c.loop in
    turns_out a.base _ a.clock.now a.clock.pace _ l.s _ _ _ _ _ _ _ l.invariant.3 (none c.loop.counter c.loop-test.false)
