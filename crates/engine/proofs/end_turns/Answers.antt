-- `engine::end_turns` meets its contract. Assumes nothing.
use Rattle.engine.proofs.Outcome.{turns-ended}
use borrow.Author.Rules.{rules}
use Rattle.engine.proofs.end_turns.Goals as goal

pub shape_of-journal : goal.shape_of-journal
shape_of-journal c = search (rules, c.note_end.auto, c.note_pending-waits.auto, c.note_majors-counts.auto, c.note_busy-times.auto, c.note_core-numbers.auto)

pub returns : goal.returns
returns c x tb tb' s₀ base lent act w j₀ w' p fits went =
    let a = c.args in
    turns-ended a.k a.s x tb tb' _ _ _ _ _ _ a.used _ c.begun.ensures c.note_core-numbers.ensures c.note_busy-times.ensures c.note_majors-counts.ensures c.note_pending-waits.ensures c.note_end.ensures
    c.done.result c.done.ensures s₀ base lent act w j₀ w' p fits went
