-- `closing::note_pending` meets its contract: counts that are the same leave no record. Assumes nothing.
use borrow.Author.Rules.{rules}
use Rattle.closing.proofs.Laws.{numbers, none_changed}
use Rattle.closing.proofs.Parts.{of_numbers}
use Rattle.closing.proofs.note_pending.Goals as goal

pub returns-then-same : goal.returns-then-same
returns-then-same c = record { long = search rules; long_now = search rules; noted = none_changed _ _ _ _ (numbers (c.same.ensures c.if-same.true)) }

pub returns : goal.returns
returns c = of_numbers (search rules) (search rules) c.note_all.ensures
