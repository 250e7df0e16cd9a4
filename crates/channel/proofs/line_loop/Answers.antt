-- `channel::line_loop` meets its contract. Assumes nothing.
use mathlib.Core.Path.{◌≡◌, refl, sym, ◌∙◌, ap}
use Rattle.channel.proofs.Passing.{line_idle, line-off, line-done, line-over, line_again, line_out}
use Rattle.rules.specs.Run.{line_passes}
use borrow.Author.Rules.{rules}
use Prim.Native.Nat.{ℕ, suc, ◌+◌, ◌-◌, ◌<◌, ◌≤◌}
use native.Mathlib.Nat.{sub-zero}
use native.Mathlib.Omega.{arith}
use Rattle.rules.specs.Carry.{lending}
use Rattle.act.proofs.Laws.{made_err}
use Rattle.channel.proofs.line_loop.Goals as goal

-- the passes that are left are one more than those after this one
next : (k : ℕ) → k < 4194305 → line_passes - k ≡ suc (line_passes - (k + 1))
unfolding line_passes
next k h = omega arith

none : (k : ℕ) → 4194305 ≤ k → line_passes - k ≤ 0
unfolding line_passes
none k h = omega arith

pub loop-init : goal.loop-init
unfolding line_passes
loop-init c = (refl, refl, refl, search rules, λ d. rw sub-zero)

pub returns-in_default : goal.returns-in_default
returns-in_default c =
    let a = c.args in
    let l = c.loop in
    record {
      small = search rules;
      does = line_idle a.base _ _ l.f _ _ _ _ l.sum _ l.invariant.4 (line_passes - (l.counter + 1)) (next l.counter c.loop-test.true) _ (ap lending l.invariant.1) _ _ _ _ _ c.dma_minor-r.ensures _ c.nbytes_of-bytes.ensures.0 c.nbytes_of-bytes.ensures.2 c.csr_of-csr.ensures.1 c.in_default.is;
    }

pub returns-in_err-f : goal.returns-in_err-f
returns-in_err-f c =
    let a = c.args in
    let l = c.loop in
    rw (made_err c.from_residual.result c.from_residual.ensures) (record {
      small = tt;
      does = line-off a.base _ _ l.f _ _ _ _ l.sum _ l.invariant.4 (line_passes - (l.counter + 1)) (next l.counter c.loop-test.true) _ (ap lending l.invariant.1) _ _ _ _ _ c.dma_minor-r.ensures _ c.nbytes_of-bytes.ensures.0 c.nbytes_of-bytes.ensures.2 c.csr_of-csr.ensures.1 _ c.in-Some.is c.in_err-f.was;
    })

pub overflow_add-sum : goal.overflow_add-sum
overflow_add-sum c = search (rules, c.loop.invariant, c.nbytes_of-bytes.ensures, c.nbytes_of-bytes.type_inv)

pub shape_of-window-then-has_bit : goal.shape_of-window-then-has_bit
shape_of-window-then-has_bit c = search (rules, c.dma_minor-r.auto, c.loop.invariant)

pub shape_of-staging-then-has_bit : goal.shape_of-staging-then-has_bit
shape_of-staging-then-has_bit c = search (rules, c.dma_minor-r.auto, c.loop.invariant)

pub shape_of-journal-then-has_bit : goal.shape_of-journal-then-has_bit
shape_of-journal-then-has_bit c = search (rules, c.dma_minor-r.auto, c.loop.invariant)

pub returns-then-has_bit : goal.returns-then-has_bit
returns-then-has_bit c =
    let a = c.args in
    let l = c.loop in
    record {
      small = search (rules, c.nbytes_of-bytes.ensures.1);
      does = line-done a.base _ _ l.f _ _ _ _ l.sum _ l.invariant.4 (line_passes - (l.counter + 1)) (next l.counter c.loop-test.true) _ (ap lending l.invariant.1) _ _ _ _ _ c.dma_minor-r.ensures _ c.nbytes_of-bytes.ensures.0 c.nbytes_of-bytes.ensures.2 c.csr_of-csr.ensures.1 _ c.in-Some.is _ c.in_ok-f.was _ c.csr_of-csr.ensures.0 (sym c.has_bit.ensures ∙ c.if-has_bit.true);
    }

pub shape_of-window-then-sum-gt1048576 : goal.shape_of-window-then-sum-gt1048576
shape_of-window-then-sum-gt1048576 c = search (rules, c.dma_minor-r.auto, c.loop.invariant)

pub shape_of-staging-then-sum-gt1048576 : goal.shape_of-staging-then-sum-gt1048576
shape_of-staging-then-sum-gt1048576 c = search (rules, c.dma_minor-r.auto, c.loop.invariant)

pub shape_of-journal-then-sum-gt1048576 : goal.shape_of-journal-then-sum-gt1048576
shape_of-journal-then-sum-gt1048576 c = search (rules, c.dma_minor-r.auto, c.loop.invariant)

pub returns-then-sum-gt1048576 : goal.returns-then-sum-gt1048576
returns-then-sum-gt1048576 c =
    let a = c.args in
    let l = c.loop in
    record {
      small = search (rules, c.nbytes_of-bytes.ensures.1);
      does = line-over a.base _ _ l.f _ _ _ _ l.sum _ l.invariant.4 (line_passes - (l.counter + 1)) (next l.counter c.loop-test.true) _ (ap lending l.invariant.1) _ _ _ _ _ c.dma_minor-r.ensures _ c.nbytes_of-bytes.ensures.0 c.nbytes_of-bytes.ensures.2 c.csr_of-csr.ensures.1 _ c.in-Some.is _ c.in_ok-f.was _ c.csr_of-csr.ensures.0 (sym c.has_bit.ensures ∙ c.if-has_bit.false) c.if-sum-gt1048576.true;
    }

pub loop-preserved : goal.loop-preserved
loop-preserved c =
    let a = c.args in
    let l = c.loop in
    (search rules, search rules, search rules, search rules, line_again a.base _ _ l.f _ _ _ _ l.sum _ l.invariant.4 (line_passes - (l.counter + 1)) (next l.counter c.loop-test.true) _ (ap lending l.invariant.1) _ _ _ _ _ c.dma_minor-r.ensures _ c.nbytes_of-bytes.ensures.0 c.nbytes_of-bytes.ensures.2 c.csr_of-csr.ensures.1 _ c.in-Some.is _ c.in_ok-f.was _ c.csr_of-csr.ensures.0 (sym c.has_bit.ensures ∙ c.if-has_bit.false) c.if-sum-gt1048576.false)

pub returns : goal.returns
returns c =
    let a = c.args in
    let l = c.loop in
    record { small = tt; does = line_out a.base _ _ l.f _ _ _ _ l.sum _ l.invariant.4 (none c.loop.counter c.loop-test.false) }
