-- `channel::start_loop` meets its contract. Assumes nothing.
use Rattle.channel.proofs.Passing.{start_idle, start_off, start_stop, start_again, start_out}
use Rattle.rules.specs.Run.{start_passes}
use borrow.Author.Rules.{rules}
use Prim.Native.Nat.{ℕ, suc, ◌+◌, ◌-◌, ◌<◌, ◌≤◌}
use native.Mathlib.Nat.{sub-zero}
use native.Mathlib.Omega.{arith}
use mathlib.Core.Path.{◌≡◌, refl, ap}
use Rattle.rules.specs.Carry.{lending}
use Rattle.act.proofs.Laws.{made_err}
use Rattle.channel.proofs.start_loop.Goals as goal

-- the passes that are left are one more than those after this one
next : (k : ℕ) → k < 32768 → start_passes - k ≡ suc (start_passes - (k + 1))
unfolding start_passes
next k h = omega arith

none : (k : ℕ) → 32768 ≤ k → start_passes - k ≤ 0
unfolding start_passes
none k h = omega arith

pub loop-init : goal.loop-init
unfolding start_passes
loop-init c = (refl, refl, refl, λ d. rw sub-zero)

pub returns-in_default : goal.returns-in_default
returns-in_default c =
    let a = c.args in
    let l = c.loop in
    start_idle a.base _ a.ch a.before _ l.f _ _ _ _ _ l.invariant.3 (start_passes - (l.counter + 1)) (next l.counter c.loop-test.true) _ (ap lending l.invariant.1) _ _ _ _ _ c.dma_minor.ensures c.in_default.is

pub returns-in_err-f : goal.returns-in_err-f
returns-in_err-f c d =
    let a = c.args in
    let l = c.loop in
    rw (made_err c.from_residual.result c.from_residual.ensures)
    (start_off a.base _ a.ch a.before _ l.f _ _ _ _ _ l.invariant.3 (start_passes - (l.counter + 1)) (next l.counter c.loop-test.true) _ (ap lending l.invariant.1) _ _ _ _ _ c.dma_minor.ensures _ c.in-Some.is c.in_err-f.was d)

pub returns-then-majors-ch : goal.returns-then-majors-ch
returns-then-majors-ch c =
    let a = c.args in
    let l = c.loop in
    start_stop a.base _ a.ch a.before _ l.f _ _ _ _ _ l.invariant.3 (start_passes - (l.counter + 1)) (next l.counter c.loop-test.true) _ (ap lending l.invariant.1) _ _ _ _ _ c.dma_minor.ensures _ c.in-Some.is _ c.in_ok-f.was c.if-majors-ch.true

pub loop-preserved : goal.loop-preserved
loop-preserved c =
    let a = c.args in
    let l = c.loop in
    (search rules, search rules, search rules, start_again a.base _ a.ch a.before _ l.f _ _ _ _ _ l.invariant.3 (start_passes - (l.counter + 1)) (next l.counter c.loop-test.true) _ (ap lending l.invariant.1) _ _ _ _ _ c.dma_minor.ensures _ c.in-Some.is _ c.in_ok-f.was c.if-majors-ch.false)

pub returns : goal.returns
returns c =
    let a = c.args in
    let l = c.loop in
    start_out a.base _ a.ch a.before _ l.f _ _ _ _ _ l.invariant.3 (none c.loop.counter c.loop-test.false)
