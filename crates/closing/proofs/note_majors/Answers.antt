-- `closing::note_majors` meets its contract: the elements are the numbers. Assumes nothing.
use borrow.Author.Rules.{rules}
use Rattle.closing.proofs.Parts.{of_numbers}
use Rattle.closing.proofs.note_majors.Goals as goal

pub returns : goal.returns
returns c = of_numbers (search rules) (search rules) c.note_all.ensures
