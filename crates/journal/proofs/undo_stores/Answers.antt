-- `journal::undo_stores` meets its contract. The loop's invariant: what is left to undo from here gives what undoing all gives from the start. Assumes nothing.
use Rattle.journal.proofs.UndoLaws.{undo-turn, undo_none}
use native.Mathlib.Omega.{arith}
use mathlib.Core.Path.{refl, sym, ◌∙◌}
use Rattle.journal.proofs.undo_stores.Goals as goal

pub loop-k-init : goal.loop-k-init
loop-k-init c = (λ d. refl, refl)

pub loop-k-preserved : goal.loop-k-preserved
loop-k-preserved c =
    let a = c.args in
    let l = c.loop-k in
    (λ d. undo-turn a.base l.k a.from a.journal.now l.window l.table c.loop-k-test.true (omega arith) c.undo_store.ensures d ∙ l.invariant.0 d, omega (arith, c.undo_store.auto.window))

pub returns : goal.returns
returns c d = rw (← c.span-count.ensures) (sym (undo_none _ _ _ _ (omega arith)) ∙ c.loop-k.invariant.0 d)
