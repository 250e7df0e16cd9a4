-- `chip::choose` meets its contract. The loop's invariant: the choice among the channels left, from the best so far, is the whole. The measure is the
-- mask that is left. Assumes nothing.
use mathlib.Core.Logic.{inl, inr, ⊎_elim}
use mathlib.Core.Path.{refl}
use native.Mathlib.Omega.{arith}
use Rattle.chip.proofs.Choosing.{took, kept, fewer, ended}
use Rattle.chip.proofs.choose.Goals as goal

pub loop-left-init : goal.loop-left-init
loop-left-init c = (c.ranges.ready.fits, record { so_far = refl }, inr (c.requires, refl))

pub loop-left-smaller-then-top-value : goal.loop-left-smaller-then-top-value
loop-left-smaller-then-top-value c =
    let l = c.loop-left in
    fewer l.left (omega arith) l.invariant.0 c.lowest_bit-ch.ensures.0 c.lose_bit-left.ensures

pub loop-left-preserved-then-top-value : goal.loop-left-preserved-then-top-value
loop-left-preserved-then-top-value c =
    let l = c.loop-left in
    let less = fewer l.left (omega arith) l.invariant.0 c.lowest_bit-ch.ensures.0 c.lose_bit-left.ensures in
    (omega (arith, less), took l.invariant.1 (omega arith) l.invariant.0 c.lowest_bit-ch.ensures.0 c.lose_bit-left.ensures c.if-top-value.true, inl c.lowest_bit-ch.ensures.1)

pub loop-left-smaller : goal.loop-left-smaller
loop-left-smaller c =
    let l = c.loop-left in
    fewer l.left (omega arith) l.invariant.0 c.lowest_bit-ch.ensures.0 c.lose_bit-left.ensures

pub loop-left-preserved : goal.loop-left-preserved
loop-left-preserved c =
    let l = c.loop-left in
    let less = fewer l.left (omega arith) l.invariant.0 c.lowest_bit-ch.ensures.0 c.lose_bit-left.ensures in (
      omega (arith, less),
      kept l.invariant.1 (omega arith) l.invariant.0 c.lowest_bit-ch.ensures.0 c.lose_bit-left.ensures c.if-top-value.false,
      ⊎_elim (λ h. inl h) (λ h. absurd (omega (arith, h.1, c.if-top-value.false))) l.invariant.2,
    )

pub returns : goal.returns
returns c =
    let l = c.loop-left in
    (ended l.invariant.1 c.loop-left-test.false, ⊎_elim (λ h. h) (λ h. absurd (omega (arith, h.0, c.loop-left-test.false))) l.invariant.2)
