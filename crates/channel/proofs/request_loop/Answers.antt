-- `channel::request_loop` meets its contract. Assumes nothing.
use Rattle.channel.proofs.Passing.{request_stop, request_idle, request_off, request_again, request_out}
use Rattle.rules.specs.Run.{request_passes}
use borrow.Author.Rules.{rules}
use Prim.Native.Nat.{ℕ, suc, ◌+◌, ◌-◌, ◌<◌, ◌≤◌}
use native.Mathlib.Nat.{sub-zero}
use native.Mathlib.Omega.{arith}
use mathlib.Core.Path.{◌≡◌, refl, ap}
use Rattle.rules.specs.Carry.{lending}
use Rattle.act.proofs.Laws.{made_err}
use Rattle.channel.proofs.request_loop.Goals as goal

-- the passes that are left are one more than those after this one
next : (k : ℕ) → k < 1048577 → request_passes - k ≡ suc (request_passes - (k + 1))
unfolding request_passes
next k h = omega arith

none : (k : ℕ) → 1048577 ≤ k → request_passes - k ≤ 0
unfolding request_passes
none k h = omega arith

pub loop-init : goal.loop-init
unfolding request_passes
loop-init c = (refl, refl, refl, λ d. rw sub-zero)

pub returns-then-not-offered : goal.returns-then-not-offered
returns-then-not-offered c =
    let a = c.args in
    let l = c.loop in
    request_stop a.base _ a.ch _ l.f _ _ _ _ _ _ l.invariant.3 (request_passes - (l.counter + 1)) (next l.counter c.loop-test.true) c.offered.ensures c.if-not-offered.true

pub returns-in_default : goal.returns-in_default
returns-in_default c =
    let a = c.args in
    let l = c.loop in
    request_idle a.base _ a.ch _ l.f _ _ _ _ _ _ l.invariant.3 (request_passes - (l.counter + 1)) (next l.counter c.loop-test.true) c.offered.ensures c.if-not-offered.false _ c.spend.ensures.0 c.spend.ensures.1 _ (ap lending l.invariant.1) _ _ _ _ _ c.dma_minor.ensures c.in_default.is

pub returns-in_err-f : goal.returns-in_err-f
returns-in_err-f c d =
    let a = c.args in
    let l = c.loop in
    rw (made_err c.from_residual.result c.from_residual.ensures)
    (request_off a.base _ a.ch _ l.f _ _ _ _ _ _ l.invariant.3 (request_passes - (l.counter + 1)) (next l.counter c.loop-test.true) c.offered.ensures c.if-not-offered.false _ c.spend.ensures.0 c.spend.ensures.1 _ (ap lending l.invariant.1) _ _ _ _ _ c.dma_minor.ensures _ c.in-Some.is c.in_err-f.was d)

pub loop-preserved : goal.loop-preserved
loop-preserved c =
    let a = c.args in
    let l = c.loop in
    (search rules, search rules, search rules, request_again a.base _ a.ch _ l.f _ _ _ _ _ _ l.invariant.3 (request_passes - (l.counter + 1)) (next l.counter c.loop-test.true) c.offered.ensures c.if-not-offered.false _ c.spend.ensures.0 c.spend.ensures.1 _ (ap lending l.invariant.1) _ _ _ _ _ c.dma_minor.ensures _ c.in-Some.is _ c.in_ok-f.was)

pub returns : goal.returns
returns c =
    let a = c.args in
    let l = c.loop in
    request_out a.base _ a.ch _ l.f _ _ _ _ _ _ l.invariant.3 (none c.loop.counter c.loop-test.false)
