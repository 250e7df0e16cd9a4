-- `listing::list` meets its contract. The loop's invariant: the lines of the records passed are there, and as many marks as are still to come are to come. Assumes nothing.
use Rattle.listing.proofs.Laws.{text_none, text-turn, nothing_yet, marks_turn, marks_stop, marks_end}
use native.Mathlib.Omega.{arith}
use mathlib.Core.Path.{◌≡◌, refl, sym, ◌∙◌}
use Rattle.listing.proofs.list.Goals as goal

pub loop-r-init : goal.loop-r-init
loop-r-init c = (refl, text_none _ _, nothing_yet _ _)

pub returns-then-not-is_marked : goal.returns-then-not-is_marked
returns-then-not-is_marked c =
    record { at_most = omega arith; as_many = marks_stop _ _ _ _ c.loop-r.invariant.2 (omega arith) (omega arith) c.is_marked.ensures c.if-not-is_marked.true; as_text = c.loop-r.invariant.1 }

pub loop-r-preserved : goal.loop-r-preserved
loop-r-preserved c =
    let inv = c.loop-r.invariant in
    (omega arith, text-turn _ _ (omega arith) _ inv.1 c.put_line.ensures, marks_turn _ _ _ _ inv.2 (omega arith) (omega arith) c.is_marked.ensures c.if-not-is_marked.false)

pub returns : goal.returns
returns c =
    let e : c.loop-r.r ≡ c.args.count = omega arith in
    record { at_most = omega arith; as_many = sym e ∙ marks_end _ _ _ _ c.loop-r.invariant.2 (omega arith); as_text = rw e at c.loop-r.invariant.1 }
