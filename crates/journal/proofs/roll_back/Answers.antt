-- `journal::roll_back` meets its contract: the records are undone, and then cleared to the journal's end. Assumes nothing.
use Rattle.journal.proofs.UndoLaws.{zeros_to_end}
use Rattle.journal.proofs.roll_back.Goals as goal

pub returns : goal.returns
returns c =
    let a = c.args in
    record {
      stores_are = λ d. rw (← c.least-end.ensures) (c.undo_stores.ensures d);
      journal_is = zeros_to_end a.used a.journal.now c.clear.ensures;
    }
