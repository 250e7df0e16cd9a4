-- `entries::put_back` meets its contract. Assumes nothing.
use Rattle.entries.proofs.put_back.Goals as goal

pub returns : goal.returns
returns c = (c.answer_of.ensures, c.lay_down.ensures)
