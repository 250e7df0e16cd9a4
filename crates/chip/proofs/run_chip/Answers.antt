-- `chip::run_chip` meets its contract. The loop's invariant: what is left to do from here is the whole, and what is kept is what is there.
-- Assumes nothing.
use mathlib.Core.Path.{◌≡◌, refl, ap}
use Prim.Native.Nat.{ℕ, suc, ◌+◌, ◌-◌, ◌<◌, ◌≤◌}
use native.Mathlib.Nat.{sub-zero}
use native.Mathlib.Omega.{arith}
use borrow.Author.Rules.{rules}
use Rattle.rules.specs.Carry.{lending}
use Rattle.rules.specs.Run.{run_turns}
use Rattle.act.proofs.Laws.{made_err}
use Rattle.chip.proofs.Turning.{chips_out, chips_stop, chips_refused, chips_again}
use Rattle.chip.proofs.run_chip.Goals as goal

-- the turns that are left are one more than those after this one
next : (k : ℕ) → k < 4096 → run_turns - k ≡ suc (run_turns - (k + 1))
unfolding run_turns
next k h = omega arith

none : (k : ℕ) → 4096 ≤ k → run_turns - k ≤ 0
unfolding run_turns
none k h = omega arith

pub loop-init : goal.loop-init
unfolding run_turns
loop-init c = (
  refl,
  refl,
  refl,
  λ d proper order. record { rest = rw (c.look-k.ensures.1, sub-zero) refl; proper = proper; sees = c.look-k.ensures.0; priorities = order },
)

pub returns-then-m-eq0 : goal.returns-then-m-eq0
returns-then-m-eq0 c d proper order =
    let l = c.loop in
    chips_stop (l.invariant.3 d proper order) _ (next l.counter c.loop-test.true) _ c.ready-m.ensures c.if-m-eq0.true

pub returns-in_err-turned : goal.returns-in_err-turned
returns-in_err-turned c d proper order =
    let l = c.loop in
    rw (made_err c.from_residual.result c.from_residual.ensures)
    (chips_refused (l.invariant.3 d proper order) _ (next l.counter c.loop-test.true) _ c.ready-m.ensures _ c.choose-ch.ensures.0 c.choose-ch.ensures.1 _ (ap lending l.invariant.1) _ _ _ _ _ _ _ c.chip_turn.ensures c.in_err-turned.was)

pub renewed-k-requires : goal.renewed-k-requires
renewed-k-requires c = (c.choose-ch.ensures.1, c.minor_link-minor.ensures.1, c.major_link-major.ensures.1)

pub loop-preserved : goal.loop-preserved
loop-preserved c =
    let l = c.loop in (
      search rules,
      search rules,
      search rules,
      λ d proper order.
          chips_again (l.invariant.3 d proper order) _ (next l.counter c.loop-test.true) _ c.ready-m.ensures _ c.choose-ch.ensures.0 c.choose-ch.ensures.1 _ (ap lending l.invariant.1) _ _ _ _ _ _ _ c.chip_turn.ensures _ c.in_ok-turned.was _ _ _ c.minor_link-minor.ensures.0 c.major_link-major.ensures.0 c.renewed-k.ensures,
    )

pub returns : goal.returns
returns c d proper order = chips_out (c.loop.invariant.3 d proper order) (none c.loop.counter c.loop-test.false)
