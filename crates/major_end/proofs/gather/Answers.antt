-- `major_end::gather` meets its contract. The loop's invariant: what is left to gather, behind the i bytes
-- that are there, is the whole. Assumes nothing.
use Rattle.std.proofs.Common.{◌∙◌, refl, sym, ap, add-zero, add-one, arith, length-set, take-suc-set, rules}
use Rattle.act.proofs.Laws.{stays_so, told_so, made_err, none_refused}
use Rattle.std.specs.Result.{result_ok}
use Rattle.memory.proofs.Laws.{at_fits}
use Rattle.major_end.proofs.Gathering.{gather_outside, gather-inside, gather_end}
use Rattle.major_end.proofs.gather.Goals as goal

pub returns-in_err-c : goal.returns-in_err-c
returns-in_err-c c lent d j t m k =
    rw (made_err c.from_residual.result c.from_residual.ensures ∙ sym c.in_err-c.was) (stays_so _ lent _ _ d _ j t m c.in_err-c.was)

pub loop-i-init : goal.loop-i-init
loop-i-init c = (search rules, λ lent d j t m k. rw add-zero)

pub returns-in_err-o : goal.returns-in_err-o
returns-in_err-o c lent d j t m k =
    let p = none_refused c.from_residual-in_err-o.result c.ok_or.ensures.value c.ok_or.ensures.ok_part c.in_err-o.was c.from_residual-in_err-o.ensures in
    rw p.1
    (gather_outside _ lent d _ _ j t m k 32 _ _ c.loop-i-test.true _ refl c.where_is.ensures p.0 _
    ∙ told_so _ lent _ d _ j t m c.in_ok-c.was
    ∙ c.loop-i.invariant.1 lent d j t m k)

pub bounds-window-o : goal.bounds-window-o
bounds-window-o c = omega (arith, at_fits _ _ _ 1 c.where_is.ensures (c.ok_or.ensures.ok_part ∙ ap result_ok c.in_ok-o.was))

pub loop-i-preserved : goal.loop-i-preserved
loop-i-preserved c = (
  simp length-set c.loop-i.invariant.0,
  λ lent d j t m k.
      sym (told_so _ lent _ d _ j t m c.in_ok-c.was)
      ∙ rw (add-one c.loop-i.i, take-suc-set c.loop-i.next c.loop-i.i _ (omega arith), ← add-one c.loop-i.i)
      (gather-inside _ lent d _ _ j t m k 32 _ _ c.loop-i-test.true _ refl c.where_is.ensures (c.ok_or.ensures.ok_part ∙ ap result_ok c.in_ok-o.was))
      ∙ told_so _ lent _ d _ j t m c.in_ok-c.was
      ∙ c.loop-i.invariant.1 lent d j t m k,
)

pub returns : goal.returns
returns c lent d j t m k = gather_end _ lent _ k 32 _ c.loop-i.next _ (omega arith) (omega arith) ∙ c.loop-i.invariant.1 lent d j t m k
